-- k of the terms of each of the four are added up.
use Rattle.std.proofs.Common.{◌+◌, ◌*◌}
use Rattle.std.specs.Float.{binary32}
use Rattle.grids.specs.Grid.{cell}
use Rattle.entries.proofs.Totals.{AddingFour}
use Rattle.row_totals.proofs.four_rows.Given as goal

abbrev pub invariant-loop-k : goal.invariant-loop-k
invariant-loop-k l = AddingFour binary32 (cell l.inner l.a l.r) l.b (λ i k. i * l.inner + k) l.inner l.j l.t.t0 l.t.t1 l.t.t2 l.t.t3 l.k
