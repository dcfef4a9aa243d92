-- `rows::back_row`: four cells of the row and of the column a turn are written, and then one a turn.
use Rattle.std.proofs.Common.{◌*◌}
use Rattle.std.specs.Float.{binary32}
use Rattle.grids.specs.Grid.{cell}
use Rattle.factors.proofs.BackRows.{RowDone}
use Rattle.second_pass.proofs.rows.back_row.Given as goal

abbrev pub invariant-loop-f : goal.invariant-loop-f
invariant-loop-f l = RowDone binary32 l.n (cell l.n l.l) l.i l.fn.inv l.inv (l.f * 4)

abbrev pub invariant-loop-c : goal.invariant-loop-c
invariant-loop-c l = RowDone binary32 l.n (cell l.n l.l) l.i l.fn.inv l.inv l.c
