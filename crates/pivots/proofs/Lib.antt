-- The law of the pivot step: what its case says.
pub mod Cases
