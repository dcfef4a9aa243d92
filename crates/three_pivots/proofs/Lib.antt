-- Laws of the decomposition of three by three: cells stored one by one, and its four ends.
pub mod Ends
