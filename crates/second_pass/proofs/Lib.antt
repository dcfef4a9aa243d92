-- Laws of the row's inner sums, one and four side by side.
pub mod RowSums
