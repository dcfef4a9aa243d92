-- The definitions that the contracts of thin products cite.
pub mod Thin
