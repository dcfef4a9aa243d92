-- t counts the lines up to `at`, and no count is above `at`. The measure is what is left of the slice.
use Rattle.std.proofs.Common.{◌+◌, ◌-◌, ◌≤◌, length}
use Rattle.root_list.specs.Replay.{Upto}
use Rattle.root_list.proofs.Counting.{Under}
use Rattle.roots.proofs.replay.replay.Given as goal

abbrev pub invariant-loop-at : goal.invariant-loop-at
invariant-loop-at g l = Upto l.s l.at l.t × Under l.t l.at × (l.number ≤ l.at) × (l.at ≤ length l.s + 1)

abbrev pub decreases-loop-at : goal.decreases-loop-at
decreases-loop-at g l = length l.s + 1 - l.at
