-- How large the parts of an estimate are.
mod Sizes
