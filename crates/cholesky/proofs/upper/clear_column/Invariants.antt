-- `upper::clear_column`: rows 0 to j − 1 of column i are cleared.
use Rattle.std.proofs.Common.{◌≡◌}
use Rattle.grids.specs.Grid.{cell, grid}
use Rattle.grids.proofs.Steps.{up_to}
use Rattle.factors.specs.Steps.{clear_column}
use Rattle.cholesky.proofs.upper.clear_column.Given as goal

abbrev pub invariant-loop-j : goal.invariant-loop-j
invariant-loop-j l =
    let e = cell l.n l.initial.t in
    l.t ≡ grid l.n l.n (up_to l.j (clear_column e l.i) e) l.initial.t
