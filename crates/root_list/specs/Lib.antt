-- The definitions that the contracts cite.
pub mod Pattern
pub mod Line
pub mod Replay
