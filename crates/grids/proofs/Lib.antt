-- Laws of them: of a buffer that holds a matrix, of the loops that write one, of calls that are not refused, and that the promises leave one result.
pub mod Grids
pub mod Calls
pub mod Loops
pub mod Fronts
pub mod Turns
pub mod Combined
pub mod Overlap
pub mod Steps
pub mod Diagonals
pub mod Shapes
pub mod Pairs
pub mod Over
pub mod Triples
pub mod Unique
pub mod RowParts
