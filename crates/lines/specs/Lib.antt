-- The definitions that the contracts cite.
pub mod Hex
pub mod Line
pub mod Pattern
pub mod Word
