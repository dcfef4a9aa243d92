-- r of the numbers are written.
use Rattle.std.proofs.Common.{◌≡◌}
use Rattle.std.specs.Float.{binary32}
use Rattle.grids.specs.Grid.{run}
use Rattle.entries.specs.Entries.{row_product}
use Rattle.times_vector.proofs.by_three.Given as goal

abbrev pub invariant-loop-r : goal.invariant-loop-r
invariant-loop-r l = l.c ≡ run 0 l.r (row_product binary32 3 l.a l.x) l.initial.c
