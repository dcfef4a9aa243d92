-- The yarn is what i steps make of it.
use Rattle.std.proofs.Common.{◌≡◌}
use Rattle.yarn_shift.specs.Step.{watched}
use Rattle.demo.proofs.work.watch.Given as goal

abbrev pub invariant-loop-i : goal.invariant-loop-i
invariant-loop-i g l = l.yarn ≡ watched l.i
