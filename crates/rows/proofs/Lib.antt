-- Laws of a row: of its records one after the other (Each), of its tally (Tallies), and of the steps of the functions (Steps); of what a call leaves (Settled), which are refused (Refusals) and what the others say (Outcomes).
-- What the promises say further (Theorems), and that a call over a row does what the calls one by one do (OneByOne).
pub mod Each
pub mod Tallies
pub mod Steps
mod Settled
mod Refusals
mod Outcomes
pub mod Theorems
pub mod OneByOne
