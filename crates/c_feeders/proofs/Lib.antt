-- Laws behind the contracts: what a correction of a row says in numbers, and what a refused one leaves (Counted).
pub mod Counted
