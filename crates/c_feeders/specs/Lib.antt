-- The definitions that the contracts cite: what the calls over a row of feeders promise to C and Rust.
pub mod Row
