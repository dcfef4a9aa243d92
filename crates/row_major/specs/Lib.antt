-- The definition that the contract of get cites; the other functions' are those of `grids`.
pub mod Get
