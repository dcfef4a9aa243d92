-- Laws that belong to no one function: what is left of an entry, rows that are filled, and rows that are laid down as columns.
pub mod Differences
pub mod Parts
pub mod Filling
pub mod Taken
pub mod LaidRow
pub mod Laying
pub mod Upward
pub mod Rising
