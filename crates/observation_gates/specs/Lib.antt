-- The definition that the contracts cite: whether buffers fit, all at once.
pub mod Fits
