-- `lay_down`: the cells whose row and column are below c are laid down.
use Rattle.std.proofs.Common.{◌≡◌}
use Rattle.grids.specs.Grid.{cell, grid}
use Rattle.upper_rows.proofs.LaidRow.{laid_to}
use Rattle.upper_rows.proofs.lay_down.Given as goal

abbrev pub invariant-loop-c : goal.invariant-loop-c
invariant-loop-c l = l.t ≡ grid l.n l.n (laid_to l.c (cell l.n l.initial.t) l.i) l.initial.t
