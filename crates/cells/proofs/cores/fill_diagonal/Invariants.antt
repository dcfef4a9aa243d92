-- i of the rows have x on the diagonal.
use Rattle.grids.proofs.Diagonals.{Dotted}
use Rattle.cells.proofs.cores.fill_diagonal.Given as goal

abbrev pub invariant-loop-i : goal.invariant-loop-i
invariant-loop-i l = Dotted l.n l.x l.initial.m l.m l.i
