-- The definitions that the contracts cite: each stage of the correction on values.
pub mod Stages
