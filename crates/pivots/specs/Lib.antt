-- The definition that the contract cites: the pivot step, by its cases.
pub mod Pivots
