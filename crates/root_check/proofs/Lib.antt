-- The cases of the test, for a root of any number of digits.
mod Cases
