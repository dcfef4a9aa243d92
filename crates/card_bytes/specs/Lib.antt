-- The definitions that the contracts cite.
pub mod Lent
pub mod Expected
pub mod Bytes
pub mod Written
