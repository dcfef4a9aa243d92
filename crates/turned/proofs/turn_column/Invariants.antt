-- j of the cells are written.
use Rattle.std.proofs.Common.{◌≡◌, ◌*◌}
use Rattle.grids.specs.Grid.{cell, run}
use Rattle.turned.proofs.turn_column.Given as goal

abbrev pub invariant-loop-j : goal.invariant-loop-j
invariant-loop-j l = l.t ≡ run (l.k * l.cols) l.j (λ i. cell l.inner l.b i l.k) l.initial.t
