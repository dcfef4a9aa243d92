-- The definitions of the decomposition and of the inverse, over the format: which pivot is taken, each step in its order, what a refusal leaves, what the functions promise.
pub mod Pivots
pub mod Decomposition
pub mod Steps
pub mod Decomposed
pub mod Inverse
pub mod Rows
pub mod Inverted
