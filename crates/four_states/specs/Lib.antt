-- The definitions that the contracts cite: each step of the prediction on values.
pub mod Steps
