-- The law that belongs to no one function: a column more.
pub mod Stepping
