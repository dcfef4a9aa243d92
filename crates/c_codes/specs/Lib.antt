-- The definitions that the contracts cite: the code of an answer, and what an exported function says with it.
pub mod Code
