-- Laws of the totals that a row has with one to three columns, and of where a right operand lies in its buffer.
pub mod Laws
pub mod Strides
