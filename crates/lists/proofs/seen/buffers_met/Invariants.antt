-- The buffers below the index are compared.
use Rattle.std.proofs.Common.{◌≡◌}
use Rattle.std.specs.Prelude.{map}
use Rattle.lists.specs.Seen.{buffers_met}
use Rattle.lists.proofs.seen.buffers_met.Given as goal

abbrev pub invariant-loop-i : goal.invariant-loop-i
invariant-loop-i l = l.more ≡ buffers_met l.s l.initial.more (map (λ b. b.now) l.buffers) l.i
