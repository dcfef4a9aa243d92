-- k of the terms are added up.
use Rattle.std.proofs.Common.{◌≡◌}
use Rattle.std.specs.Float.{binary32}
use Rattle.grids.specs.Grid.{cell}
use Rattle.entries.specs.Entries.{times_x, numbers}
use Rattle.times_vector.proofs.total_from_first.Given as goal

abbrev pub invariant-loop-k : goal.invariant-loop-k
invariant-loop-k l = l.total ≡ times_x binary32 l.k (cell l.inner l.a) (numbers l.x) l.r
