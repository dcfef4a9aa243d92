-- Laws that belong to no one function.
mod Lending
mod Placing
mod Comparing
pub mod Agreed
