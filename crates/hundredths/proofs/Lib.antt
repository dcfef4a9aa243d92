-- Laws of `in_hundredths`.
mod Fractions
mod Patterns
