-- What a line's result tells of the card, and what the tests passed and failed so far make of its answer (Judging).
pub mod Judging
