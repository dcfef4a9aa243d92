-- The definitions that the contracts cite: a row of feeders, and what the calls over it promise (Rows). Beside them the calls made one by one (OneByOne).
pub mod Rows
pub mod OneByOne
