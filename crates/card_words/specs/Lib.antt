-- The definitions that the contracts cite: what a fitter is told of a refused card (Words), and of any text (Report).
pub mod Words
pub mod Report
