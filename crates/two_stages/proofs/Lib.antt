-- The law of a renewal.
pub mod Parts
