-- Laws of the reader: of entries that are put into a buffer one by one (Filling), of where the matrices of a card stand (Standing), and of what is answered and left (Reading). Of the writer: what is answered and left (Writing). What the promises say further (Theorems), and what they say together (RoundTrip).
mod Filling
mod Standing
mod Reading
mod Writing
pub mod Theorems
pub mod RoundTrip
