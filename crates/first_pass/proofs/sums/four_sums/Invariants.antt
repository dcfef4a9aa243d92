-- `sums::four_sums`: the terms up to row k − 1 are added up in each of the four.
use Rattle.std.specs.Float.{binary32}
use Rattle.first_pass.proofs.Terms.{SummingFour}
use Rattle.first_pass.proofs.sums.four_sums.Given as goal

abbrev pub invariant-loop-k : goal.invariant-loop-k
invariant-loop-k l = SummingFour binary32 l.n l.l l.inv l.i l.j l.t.t0 l.t.t1 l.t.t2 l.t.t3 l.k
