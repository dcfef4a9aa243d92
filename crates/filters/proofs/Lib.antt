-- Laws of them, over the format: of the steps one after the other, of calls that are not refused, of what a call leaves; and what the promises say further (Exactly, Theorems, Refused, Finite, Results, Spoilt, OnlyUpperR).
pub mod Writes
pub mod PredictionFits
pub mod PredictionUnique
pub mod Steps
pub mod CorrectionFits
pub mod Verdict
pub mod Calls
pub mod Straight
pub mod Exactly
pub mod Theorems
pub mod Refused
pub mod Finite
pub mod Results
pub mod Spoilt
pub mod OnlyUpperR
