-- The definitions of products, over the format: their entries, which refusals their calls get, and what the functions promise.
pub mod Entries
pub mod Answers
pub mod Products
