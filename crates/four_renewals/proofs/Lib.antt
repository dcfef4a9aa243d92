-- The law of what is left past the pivots.
pub mod Finished
