-- Laws that belong to no one function.
mod Filling
mod Comparing
pub mod Agreed
