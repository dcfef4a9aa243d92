-- The definitions that the contracts cite: a transpose of three columns in rows of four, and an entry of the gain.
pub mod Widened
