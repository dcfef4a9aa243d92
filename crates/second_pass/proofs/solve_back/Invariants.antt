-- `solve_back`: the rows and columns from n − 1 down to i are done.
use Rattle.std.proofs.Common.{◌≡◌, ◌-◌}
use Rattle.std.specs.Float.{binary32}
use Rattle.grids.specs.Grid.{cell, grid}
use Rattle.factors.specs.Inverse.{back}
use Rattle.factors.specs.Rows.{mirrored}
use Rattle.factors.proofs.Mirrored.{down_to}
use Rattle.second_pass.proofs.solve_back.Given as goal

abbrev pub invariant-loop-i : goal.invariant-loop-i
invariant-loop-i l =
    let z = l.initial.inv in
    l.inv ≡ grid l.n l.n (down_to l.i (cell l.n z) (back binary32 l.n (cell l.n l.l) (mirrored (cell l.n z)) (l.n - l.i))) z
