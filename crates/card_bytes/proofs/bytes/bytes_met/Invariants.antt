-- The bytes below the index are compared.
use Rattle.std.proofs.Common.{◌≡◌}
use Rattle.card_bytes.specs.Bytes.{bytes_met}
use Rattle.card_bytes.proofs.bytes.bytes_met.Given as goal

abbrev pub invariant-loop-i : goal.invariant-loop-i
invariant-loop-i l = l.more ≡ bytes_met l.initial.more l.text l.bytes l.i
