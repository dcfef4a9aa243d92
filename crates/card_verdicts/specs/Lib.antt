-- The definitions that the contracts cite: what judging a card finds.
pub mod Verdicts
