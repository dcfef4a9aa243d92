-- The definitions that the contracts cite: the numbers of a factor and an inverse of three by three.
pub mod Solved
