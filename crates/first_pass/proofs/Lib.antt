-- Laws of the sums of a row and of the row that is written of them, over the format.
pub mod Terms
pub mod Rows
