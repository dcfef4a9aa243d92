-- The definitions that every promise cites: what an answer says, the tests behind refusals 1 to 3, and what a call leaves.
pub mod Answers
pub mod Tests
pub mod Exactly
