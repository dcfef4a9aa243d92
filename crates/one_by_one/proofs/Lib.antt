-- The laws of the whole.
mod Whole
