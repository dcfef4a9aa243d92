-- `one_left`: k of the i products are taken off.
use Rattle.std.specs.Float.{binary32}
use Rattle.upper_rows.proofs.Differences.{Lessening}
use Rattle.upper_rows.proofs.one_left.Given as goal

abbrev pub invariant-loop-k : goal.invariant-loop-k
invariant-loop-k l = Lessening binary32 l.n l.i l.c l.t l.v l.k
