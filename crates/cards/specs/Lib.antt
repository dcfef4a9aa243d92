-- The definitions that the contracts cite: what reading a card promises (Read) and what writing one does (Written), and what the reader's steps find (Steps).
pub mod Read
pub mod Written
pub mod Steps
