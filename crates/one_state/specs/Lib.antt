-- The definitions that the contracts cite: the one-state filter, and when it agrees with the general one.
pub mod OneState
pub mod General
