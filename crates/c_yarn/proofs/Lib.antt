-- Laws behind the contracts: the ways out of a correction by value, and what a refused one leaves (Yarns); what lies in a record's cell (Stored).
pub mod Yarns
mod Stored
