-- The definitions that the contracts cite: matrices of these sizes by value, and their products.
pub mod Values
pub mod Products
