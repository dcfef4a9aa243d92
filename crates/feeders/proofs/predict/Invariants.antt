-- The first of the records are made anew, and the others are as lent.
use Rattle.std.proofs.Common.{◌≡◌}
use Rattle.one_state.specs.OneState.{predicted}
use Rattle.rows.specs.Rows.{each}
use Rattle.feeders.proofs.predict.Given as goal

abbrev pub invariant-loop-feeder : goal.invariant-loop-feeder
invariant-loop-feeder l = l.feeder-items ≡ each (λ i s. predicted s) l.feeder-index l.initial.feeder-items
