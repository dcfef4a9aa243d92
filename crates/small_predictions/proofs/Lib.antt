-- The law of two states.
mod Two
