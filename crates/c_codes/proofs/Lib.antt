-- Laws of the code: it tells answers apart, and what an answer carries is not cut in it.
pub mod Codes
pub mod Small
