-- A loop over a row of records in place, by one step on a record: a turn, and all of them (Loop).
mod Loop
