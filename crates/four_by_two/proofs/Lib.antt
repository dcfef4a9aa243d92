-- The laws of the whole correction.
pub mod Whole
