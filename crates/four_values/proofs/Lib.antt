-- Laws of values: from their parts, and in buffers.
pub mod Values
