-- The first i entries stand in the buffer.
use Rattle.grids.proofs.Loops.{Writing}
use Rattle.std.specs.Float.{binary32}
use Rattle.card_text.specs.Values.{entries_in}
use Rattle.cards.specs.Read.{floats}
use Rattle.cards.proofs.matrices.fill.Given as goal

abbrev pub invariant-loop-i : goal.invariant-loop-i
invariant-loop-i l = Writing 0 l.k (floats binary32 (entries_in 8 l.k l.text)) l.initial.into l.into l.i
