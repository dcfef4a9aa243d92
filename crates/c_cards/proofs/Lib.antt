-- Laws of a card read (Reading) and written (Writing) for C, by their two cases, and that their codes say everything (Coded).
mod Reading
mod Writing
pub mod Coded
