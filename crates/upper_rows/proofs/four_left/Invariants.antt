-- `four_left`: k of the i products are taken off each of the four.
use Rattle.std.specs.Float.{binary32}
use Rattle.upper_rows.proofs.Differences.{LesseningFour}
use Rattle.upper_rows.proofs.four_left.Given as goal

abbrev pub invariant-loop-k : goal.invariant-loop-k
invariant-loop-k l = LesseningFour binary32 l.n l.i l.c l.t l.v.t0 l.v.t1 l.v.t2 l.v.t3 l.k
