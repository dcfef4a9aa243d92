-- `solve_row`: four cells a turn are written, and then one a turn.
use Rattle.std.proofs.Common.{◌+◌, ◌*◌}
use Rattle.std.specs.Float.{binary32}
use Rattle.grids.proofs.Loops.{Writing}
use Rattle.first_pass.specs.Below.{solved_cell}
use Rattle.first_pass.proofs.solve_row.Given as goal

abbrev pub invariant-loop-f : goal.invariant-loop-f
invariant-loop-f l = Writing (l.i * l.n) (l.i + 1) (solved_cell binary32 l.n l.l l.fn.inv l.i) l.fn.inv l.inv (l.f * 4)

abbrev pub invariant-loop-j : goal.invariant-loop-j
invariant-loop-j l = Writing (l.i * l.n) (l.i + 1) (solved_cell binary32 l.n l.l l.fn.inv l.i) l.fn.inv l.inv l.j
