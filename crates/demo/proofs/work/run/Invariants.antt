-- t is the tally of the i steps so far, which have come to the feeder f.
use Rattle.shift.specs.Tally.{Tallied}
use Rattle.demo.proofs.work.run.Given as goal

abbrev pub invariant-loop-i : goal.invariant-loop-i
invariant-loop-i g l = Tallied l.i l.f l.t
