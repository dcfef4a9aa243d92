-- i of the cells are written.
use Rattle.std.proofs.Common.{◌≡◌, get_or}
use Rattle.std.specs.Float.{nan}
use Rattle.grids.specs.Grid.{run}
use Rattle.cells.proofs.cores.copy_cells.Given as goal

abbrev pub invariant-loop-i : goal.invariant-loop-i
invariant-loop-i l = l.to ≡ run 0 l.i (λ k. get_or l.from k nan) l.initial.to
