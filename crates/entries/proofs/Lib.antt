-- Laws of them, over the format: of the loops that add up, of products over buffers just written, of calls that are not refused, and of the products themselves.
pub mod Places
pub mod Totals
pub mod Written
pub mod Shapes
pub mod Agree
pub mod Turned
pub mod Unique
