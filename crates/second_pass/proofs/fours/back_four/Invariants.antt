-- `fours::back_four`: the terms of the rows from i + 1 to k − 1 are added up in each of the four.
use Rattle.std.specs.Float.{binary32}
use Rattle.second_pass.proofs.RowSums.{FourSums}
use Rattle.second_pass.proofs.fours.back_four.Given as goal

abbrev pub invariant-loop-k : goal.invariant-loop-k
invariant-loop-k l = FourSums binary32 l.n l.l l.inv l.i l.c l.t.t0 l.t.t1 l.t.t2 l.t.t3 l.k
