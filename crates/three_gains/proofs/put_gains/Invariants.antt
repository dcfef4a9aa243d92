-- `put_gains`: rows 0 to r − 1 of both matrices are written.
use Rattle.std.specs.Float.{binary32}
use Rattle.grids.specs.Grid.{cell}
use Rattle.grids.proofs.Turns.{Rows}
use Rattle.entries.specs.Entries.{times}
use Rattle.three_solved.specs.Solved.{inverse_in}
use Rattle.three_gains.proofs.put_gains.Given as goal

abbrev pub invariant-loop-r : goal.invariant-loop-r
invariant-loop-r l = record {
  gain : Rows l.n 3 (times binary32 3 (cell 4 l.f) (inverse_in l.v)) l.initial.k l.k l.r;
  pht : Rows l.n 3 (cell 4 l.f) l.initial.temp_pht l.temp_pht l.r;
}
