-- `two_halves`: k terms are added up in each of the sixteen totals.
use Rattle.std.specs.Float.{binary32}
use Rattle.row_pairs.proofs.Pairs.{Totals}
use Rattle.right_halves.proofs.two_halves.Given as goal

abbrev pub invariant-loop-k : goal.invariant-loop-k
invariant-loop-k l = record {
  first : Totals binary32 l.inner l.cols l.a l.b l.row 8 l.t0 l.k;
  first_last : Totals binary32 l.inner l.cols l.a l.b l.row l.last l.t1 l.k;
  second : Totals binary32 l.inner l.cols l.a l.b l.next 8 l.s0 l.k;
  second_last : Totals binary32 l.inner l.cols l.a l.b l.next l.last l.s1 l.k;
}
