-- Laws of the functions at f32: the whole number next to a root, the patterns of a float by its exponent field. The laws over the format are those of `numbers`.
mod NearRoot
pub mod Patterns
mod Subnormal
pub mod NotNan
mod Cases
