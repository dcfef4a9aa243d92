-- Laws of them, over the format: of square roots of whole numbers, of the root of a float, of sums, of whole-number floats, of zeros.
pub mod Floor
pub mod Unique
pub mod Exists
pub mod Accepted
pub mod Nearest
pub mod Reciprocals
pub mod Largest
pub mod NotFinite
pub mod Every
pub mod Same
pub mod Exact
pub mod Sums
pub mod Commute
pub mod MinusZero
pub mod Zeros
