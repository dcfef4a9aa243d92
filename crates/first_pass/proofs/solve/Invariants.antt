-- `solve`: rows 0 to i − 1 are done.
use Rattle.std.proofs.Common.{◌≡◌}
use Rattle.std.specs.Float.{binary32}
use Rattle.grids.specs.Grid.{cell, grid}
use Rattle.factors.specs.Rows.{solved_below}
use Rattle.first_pass.proofs.solve.Given as goal

abbrev pub invariant-loop-i : goal.invariant-loop-i
invariant-loop-i l = l.inv ≡ grid l.n l.n (solved_below binary32 (cell l.n l.l) (cell l.n l.initial.inv) l.i) l.initial.inv
