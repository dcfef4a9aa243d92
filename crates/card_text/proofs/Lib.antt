-- Laws of a card as a text: of its lines (Lines), of what begins them (Keys) and of entries (Entries); some cards and their answers (Cards); how counts (Counts), one entry (Digits), entries (Patterns) and lines (Spelt) are spelt and read; which answer is given exactly when (FirstBad), and what does not matter to it (SameLines); that a card is taken exactly where it is spelt so (Theorems), and how long it is (Length); that the buffers come after it (Buffers), and that a refusal stays (Refused).
pub mod Lines
pub mod Keys
pub mod Entries
pub mod Cards
pub mod Counts
pub mod Digits
pub mod Patterns
pub mod Spelt
pub mod FirstBad
pub mod SameLines
pub mod Theorems
pub mod Length
pub mod Buffers
pub mod Refused
pub mod Said
