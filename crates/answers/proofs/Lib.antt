-- Laws that belong to no one function.
pub mod Kept
pub mod Shorter
pub mod Table
pub mod Fit
pub mod Asked
