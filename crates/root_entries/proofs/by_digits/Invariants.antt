-- `by_digits` meets its contract. `Turn` of `proofs/Loop.antt` is the invariant; b, which is halved, is the measure.
use Rattle.root_entries.proofs.Loop.{Turn}
use Rattle.root_entries.proofs.by_digits.Given as goal

abbrev pub invariant-loop-b : goal.invariant-loop-b
invariant-loop-b l = Turn 24 l.n l.r l.b

abbrev pub decreases-loop-b : goal.decreases-loop-b
decreases-loop-b l = l.b
