-- `sums::one_sum`: the terms of the rows j to k − 1 are added up.
use Rattle.std.specs.Float.{binary32}
use Rattle.first_pass.proofs.Terms.{Summing}
use Rattle.first_pass.proofs.sums.one_sum.Given as goal

abbrev pub invariant-loop-k : goal.invariant-loop-k
invariant-loop-k l = Summing binary32 l.n l.l l.inv l.i l.j l.sum l.k
