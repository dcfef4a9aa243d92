-- Where the pivot is taken, its root is stored once the rest of the row is filled.
use Rattle.std.proofs.Common.{arith}
use Rattle.std.specs.Float.{binary32}
use Rattle.upper_rows.proofs.Taken.{row_taken}
use Rattle.upper_rows.proofs.fill_row.Goals as goal

pub returns-in-Accepted-clause-row : goal.returns-in-Accepted-clause-row
returns-in-Accepted-clause-row c =
    let m = c.args in
    row_taken binary32 m.n m.i m.t.now (omega arith) (omega arith) _ _ _ _ _ c.one_left.ensures c.pivot_of.ensures c.in-Accepted.is c.fill_right.ensures
