-- The definition that the contracts cite: what is left past the pivots.
pub mod Finished
