-- r of the cells are written.
use Rattle.std.proofs.Common.{◌≡◌}
use Rattle.grids.specs.Grid.{run, cell}
use Rattle.cells.proofs.cores.copy_column.Given as goal

abbrev pub invariant-loop-r : goal.invariant-loop-r
invariant-loop-r l = l.to ≡ run 0 l.r (λ k. cell l.cols l.from k l.column) l.initial.to
