-- What is found of the entries that are left, in the rest of the text, is what is found of all of them.
use Rattle.std.proofs.Common.{◌≡◌, ◌-◌, suc}
use Rattle.card_lines.specs.Front.{entries_first}
use Rattle.card_lines.proofs.entries.entries_here.Given as goal

abbrev pub invariant-loop : goal.invariant-loop
invariant-loop l = entries_first 8 (suc (l.k - l.counter)) l.rest ≡ entries_first 8 l.k l.fn.text
