-- The definition that the contract of `yurgamysh_get` cites; those of the others are of `grids`.
pub mod Cell
