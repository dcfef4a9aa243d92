-- That get leaves one result; the other laws are those of `grids`.
pub mod Unique
