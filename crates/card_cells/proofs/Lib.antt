-- Laws that belong to no one function.
mod Marking
mod Comparing
pub mod Agreed
