-- Laws that belong to no one function.
pub mod Cases
pub mod Finite
pub mod General
