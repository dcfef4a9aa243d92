-- `fill_right`: the row is filled from column c on, and then from column d on.
use Rattle.std.specs.Float.{binary32}
use Rattle.upper_rows.proofs.Filling.{Filling}
use Rattle.upper_rows.proofs.fill_right.Given as goal

abbrev pub invariant-loop-c : goal.invariant-loop-c
invariant-loop-c l = Filling binary32 l.n l.i l.q l.fn.t l.t l.c

abbrev pub decreases-loop-c : goal.decreases-loop-c
decreases-loop-c l = l.c

abbrev pub invariant-loop-d : goal.invariant-loop-d
invariant-loop-d l = Filling binary32 l.n l.i l.q l.fn.t l.t l.d
