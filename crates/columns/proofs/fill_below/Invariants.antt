-- `fill_below`: rows i + 1 to j − 1 of column i are filled.
use Rattle.std.proofs.Common.{◌≡◌}
use Rattle.std.specs.Float.{binary32}
use Rattle.grids.specs.Grid.{cell, grid}
use Rattle.grids.proofs.Steps.{up_to}
use Rattle.factors.specs.Decomposition.{below}
use Rattle.columns.proofs.fill_below.Given as goal

abbrev pub invariant-loop-j : goal.invariant-loop-j
invariant-loop-j l =
    let e = cell l.n l.initial.t in
    l.t ≡ grid l.n l.n (up_to l.j (below binary32 e l.i l.d) e) l.initial.t
