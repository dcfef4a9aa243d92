-- Laws of the totals of a row and the places that they are read at, and of rows that are written two at a time.
pub mod Pairs
