-- `factor_rows`: rows 0 to i − 1 are filled, their pivots taken; then rows 0 to j − 1 are laid down.
use Rattle.std.proofs.Common.{◌≡◌}
use Rattle.std.specs.Float.{binary32}
use Rattle.grids.specs.Grid.{cell, grid}
use Rattle.upper_rows.proofs.Laying.{turned}
use Rattle.upper_rows.proofs.Rising.{Rising}
use Rattle.upper_rows.proofs.factor_rows.Given as goal

abbrev pub invariant-loop-i : goal.invariant-loop-i
invariant-loop-i l = Rising binary32 l.n l.fn.t l.t l.i

abbrev pub invariant-loop-j : goal.invariant-loop-j
invariant-loop-j l = l.t ≡ grid l.n l.n (turned l.j (cell l.n l.initial.t)) l.initial.t
