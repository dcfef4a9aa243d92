-- `ones::back_one`: the terms of the rows from i + 1 to k − 1 are added up.
use Rattle.std.specs.Float.{binary32}
use Rattle.second_pass.proofs.RowSums.{Summing}
use Rattle.second_pass.proofs.ones.back_one.Given as goal

abbrev pub invariant-loop-k : goal.invariant-loop-k
invariant-loop-k l = Summing binary32 l.n l.l l.inv l.i l.c l.t l.k
