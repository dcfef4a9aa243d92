-- The definitions of the filter, over the format: the prediction and the correction, step by step, what the functions promise, and the words of the theorems.
pub mod Prediction
pub mod Predicted
pub mod Correction
pub mod Lent
pub mod Corrected
pub mod Outcomes
