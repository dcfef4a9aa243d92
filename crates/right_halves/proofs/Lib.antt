-- Laws of the right half of a row, and of rows whose right halves are written from the last upward.
pub mod HalfRows
