-- Laws of the loop that finds a root a digit at a time.
mod Loop
