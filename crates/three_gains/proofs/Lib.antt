-- Laws of the gain for three observations: products with the transpose in rows of four, a row of each of the two matrices, and the whole.
pub mod Laws
pub mod Whole
