-- k of the terms of each of the eight entries are added up.
use Rattle.std.proofs.Common.{◌+◌, ◌*◌}
use Rattle.std.specs.Float.{binary32}
use Rattle.grids.specs.Grid.{cell}
use Rattle.entries.proofs.Totals.{AddingFour}
use Rattle.row_chunks.proofs.two_chunks.Given as goal

abbrev pub invariant-loop-k : goal.invariant-loop-k
invariant-loop-k l =
    AddingFour binary32 (cell l.inner l.a l.r) l.b (λ i k. k * l.cols + i) l.inner 0 l.t0.t0 l.t0.t1 l.t0.t2 l.t0.t3 l.k
    × AddingFour binary32 (cell l.inner l.a l.r) l.b (λ i k. k * l.cols + i) l.inner l.last l.t1.t0 l.t1.t1 l.t1.t2 l.t1.t3 l.k
