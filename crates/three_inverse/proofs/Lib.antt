-- The law of the inverse of three by three: the numbers stored are the definition's.
pub mod Entries
