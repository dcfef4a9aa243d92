-- The definitions of a lent buffer that holds a matrix: its cells, and what the functions on cells and the sums promise.
pub mod Grid
pub mod Cells
pub mod Sums
