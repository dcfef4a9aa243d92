-- k of the terms of each of the four are added up.
use Rattle.std.proofs.Common.{◌+◌}
use Rattle.std.specs.Float.{binary32}
use Rattle.numbers.specs.Sums.{products}
use Rattle.grids.specs.Grid.{cell}
use Rattle.entries.specs.Entries.{numbers}
use Rattle.entries.proofs.Totals.{AddingOn}
use Rattle.times_vector.proofs.four_from_first.Given as goal

abbrev pub invariant-loop-k : goal.invariant-loop-k
invariant-loop-k l =
    AddingOn binary32 (products binary32 (cell l.inner l.a l.r) (numbers l.x)) l.inner l.t.t0 l.k
    × AddingOn binary32 (products binary32 (cell l.inner l.a (l.r + 1)) (numbers l.x)) l.inner l.t.t1 l.k
    × AddingOn binary32 (products binary32 (cell l.inner l.a (l.r + 2)) (numbers l.x)) l.inner l.t.t2 l.k
    × AddingOn binary32 (products binary32 (cell l.inner l.a (l.r + 3)) (numbers l.x)) l.inner l.t.t3 l.k
