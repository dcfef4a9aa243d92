-- What belongs to no one function: whole numbers over many calls (the formulas without rounding, the runs of calls, R23 and R24 about both), the nights of R31, the blind shifts of R32, and the table of checked examples with its cards.
pub mod Formulas
pub mod Runs
pub mod WholeNumbers
pub mod Yarns
pub mod Nights
pub mod YarnNights
pub mod Blind
pub mod Feeders
pub mod Cards
pub mod Table
