-- The definitions of a card as a text: its lines (Lines), the values that stand in them (Values), which card is taken and what it holds (Card); the text of sizes and entries (Spelling), and of lent numbers (Said); when which answer is given (FirstBad).
pub mod Lines
pub mod Values
pub mod Card
pub mod Spelling
pub mod Said
pub mod FirstBad
