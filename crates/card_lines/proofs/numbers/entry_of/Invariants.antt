-- n is what the digits so far spell, and below 16 to their number.
use Rattle.std.proofs.Common.{◌≡◌, ◌<◌, ◌^◌, take}
use Rattle.card_text.specs.Values.{spelt_from}
use Rattle.card_lines.proofs.numbers.entry_of.Given as goal

abbrev pub invariant-loop-b : goal.invariant-loop-b
invariant-loop-b l = record { small : l.n < 16 ^ l.b-index; spelt : l.n ≡ spelt_from 0 (take l.b-index l.b-items) }
