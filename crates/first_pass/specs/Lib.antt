-- The definitions that the contracts cite: the sums of the first pass over the cells of its two buffers.
pub mod Below
