-- The laws that belong to no one function: S on the diagonal and above it, and what comes of it.
pub mod Upper
pub mod Steps
