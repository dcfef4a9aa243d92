-- `turn_three`: rows 0 to k − 1 are written.
use Rattle.grids.specs.Grid.{cell}
use Rattle.grids.proofs.Turns.{Rows}
use Rattle.three_gains.specs.Widened.{widened}
use Rattle.three_gains.proofs.turn_three.Given as goal

abbrev pub invariant-loop-k : goal.invariant-loop-k
invariant-loop-k l = Rows l.n 4 (widened (cell l.n l.h)) l.initial.t l.t l.k
