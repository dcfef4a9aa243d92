-- The definitions that the contracts cite: what a text begins with.
pub mod Front
