-- `others` counts the bytes so far that are no digits: it is 0 exactly where all of them are digits.
use Rattle.std.proofs.Common.{◌≡◌, ◌≤◌, nat_eq, take}
use Rattle.card_text.specs.Values.{are_digits}
use Rattle.card_lines.proofs.eight.behind_field.Given as goal

abbrev pub invariant-loop-b : goal.invariant-loop-b
invariant-loop-b l = record { few : l.others ≤ l.b-index; none : nat_eq l.others 0 ≡ are_digits (take l.b-index l.b-items) }
