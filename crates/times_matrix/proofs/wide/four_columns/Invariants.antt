-- r of the rows are written.
use Rattle.std.proofs.Common.{◌≡◌}
use Rattle.std.specs.Float.{binary32}
use Rattle.grids.specs.Grid.{grid}
use Rattle.entries.specs.Entries.{product}
use Rattle.times_matrix.proofs.wide.four_columns.Given as goal

abbrev pub invariant-loop-r : goal.invariant-loop-r
invariant-loop-r l = l.c ≡ grid l.r l.cols (product binary32 l.inner l.cols l.a l.b) l.initial.c
