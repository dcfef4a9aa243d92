-- Laws of the gates: tests after others, and buffers that all fit.
pub mod Fits
