-- The definitions that the contracts cite.
pub mod Lent
pub mod Cells
