-- The definitions of single numbers, over the format: the reciprocal, the square root, how one is proposed and tested, what makes it the nearest, sums in their order, whole numbers, which are finite.
pub mod Reciprocal
pub mod Root
pub mod Proposed
pub mod Nearer
pub mod Pattern
pub mod Sums
pub mod Whole
pub mod Finite
