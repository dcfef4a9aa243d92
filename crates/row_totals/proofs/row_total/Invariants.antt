-- k of the terms are added up.
use Rattle.std.proofs.Common.{◌≡◌}
use Rattle.std.specs.Float.{binary32}
use Rattle.entries.specs.Entries.{times_t}
use Rattle.grids.specs.Grid.{cell}
use Rattle.row_totals.proofs.row_total.Given as goal

abbrev pub invariant-loop-k : goal.invariant-loop-k
invariant-loop-k l = l.total ≡ times_t binary32 l.k (cell l.inner l.a) (cell l.inner l.b) l.r l.j
