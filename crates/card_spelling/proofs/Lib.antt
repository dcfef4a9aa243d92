-- Laws of the lines that are put: one line behind another (Lining), and a card (Carded).
mod Lining
mod Carded
