-- k of the terms of each of the thirty-two entries are added up.
use Rattle.std.specs.Float.{binary32}
use Rattle.row_pairs.proofs.Pairs.{Totals}
use Rattle.row_pairs.proofs.two_rows.Given as goal

abbrev pub invariant-loop-k : goal.invariant-loop-k
invariant-loop-k l =
    Totals binary32 l.inner l.cols l.a l.b l.row 0 l.t0 l.k
    × Totals binary32 l.inner l.cols l.a l.b l.row 4 l.t1 l.k
    × Totals binary32 l.inner l.cols l.a l.b l.row 8 l.t2 l.k
    × Totals binary32 l.inner l.cols l.a l.b l.row l.last l.t3 l.k
    × Totals binary32 l.inner l.cols l.a l.b l.next 0 l.s0 l.k
    × Totals binary32 l.inner l.cols l.a l.b l.next 4 l.s1 l.k
    × Totals binary32 l.inner l.cols l.a l.b l.next 8 l.s2 l.k
    × Totals binary32 l.inner l.cols l.a l.b l.next l.last l.s3 l.k
