-- k of the products of each of the sixteen entries are added up.
use Rattle.std.specs.Float.{binary32}
use Rattle.turned_vector.proofs.Chunks.{Totals}
use Rattle.turned_vector.proofs.first_chunks.Given as goal

abbrev pub invariant-loop-k : goal.invariant-loop-k
invariant-loop-k l =
    Totals binary32 l.inner l.cols l.t l.x 0 l.t0 l.k
    × Totals binary32 l.inner l.cols l.t l.x 4 l.t1 l.k
    × Totals binary32 l.inner l.cols l.t l.x 8 l.t2 l.k
    × Totals binary32 l.inner l.cols l.t l.x l.last l.t3 l.k
