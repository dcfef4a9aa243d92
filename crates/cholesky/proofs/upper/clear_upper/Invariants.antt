-- `upper::clear_upper`: columns 0 to i − 1 are cleared.
use Rattle.std.proofs.Common.{◌≡◌}
use Rattle.grids.specs.Grid.{cell, grid}
use Rattle.factors.proofs.Triangle.{lower_to}
use Rattle.cholesky.proofs.upper.clear_upper.Given as goal

abbrev pub invariant-loop-i : goal.invariant-loop-i
invariant-loop-i l = l.t ≡ grid l.n l.n (lower_to l.i (cell l.n l.initial.t)) l.initial.t
