-- The first i entries are put, a comma behind each.
use Rattle.std.proofs.Common.{◌≡◌}
use Rattle.std.proofs.lemmas.List.Edits.{sets}
use Rattle.std.specs.Float.{binary32}
use Rattle.card_text.specs.Said.{patterns}
use Rattle.card_fields.proofs.Entering.{ready}
use Rattle.card_fields.proofs.entries.put_entries.Given as goal

abbrev pub invariant-loop-i : goal.invariant-loop-i
invariant-loop-i l = l.into ≡ sets l.initial.into l.at (ready 8 (patterns binary32 l.i l.x))
