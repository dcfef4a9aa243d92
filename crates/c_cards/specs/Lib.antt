-- The definitions that the contracts cite: a card read into lent numbers (Into), and one written out of them (Out).
pub mod Into
pub mod Out
