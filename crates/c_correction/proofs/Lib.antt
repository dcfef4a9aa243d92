-- What a refusal carries in a code.
pub mod Pivots
