-- Laws of the steps: a row in two halves, and that on values made of entries each step is the general definition at four states, and so what is stored.
pub mod Rows
pub mod Whole
