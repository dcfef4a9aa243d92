-- k of the rows are written.
use Rattle.std.proofs.Common.{◌≡◌}
use Rattle.grids.specs.Grid.{cell, grid}
use Rattle.turned.proofs.turn.Given as goal

abbrev pub invariant-loop-k : goal.invariant-loop-k
invariant-loop-k l = l.t ≡ grid l.k l.cols (λ i j. cell l.inner l.b j i) l.initial.t
