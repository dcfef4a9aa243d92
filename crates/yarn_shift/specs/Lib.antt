-- The definitions that the contracts cite.
pub mod Readings
pub mod Step
