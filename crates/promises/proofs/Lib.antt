-- R23 and R24 are kept (WholeNumbers), of the record too (Yarns), and their premise can be met at the limit (AtLimit). Refused calls leave x and P (Refused), and what is finite stays finite (Nights). What a record's count says (Blind). All this of each feeder of a row (Feeders). What the enums that answer say, by their cases (Cases). The checked examples hold (Table).
-- predict is its two halves (Halves). The rest are the steps to these.
mod Numbers
mod Exact
mod Injective
mod Different
pub mod WholeNumbers
pub mod Yarns
pub mod Unchanged
pub mod Refused
pub mod Nights
pub mod Blind
pub mod Feeders
pub mod Halves
pub mod AtLimit
pub mod Cases
pub mod Table
