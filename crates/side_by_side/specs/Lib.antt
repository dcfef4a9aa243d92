-- The definition that contracts above cite: what four totals are of a row.
pub mod Chunks
