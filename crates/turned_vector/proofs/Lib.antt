-- Laws of the sums of four entries side by side, of the places that they are read at, and of a row that is written in four times four cells.
pub mod Chunks
