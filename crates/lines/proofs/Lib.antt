-- Laws that belong to no one function.
pub mod Digits
pub mod Unique
pub mod Examples
pub mod Back
pub mod Spelling
