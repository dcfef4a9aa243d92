-- The numbers below the index have their pattern (`proofs/Marking.antt`).
use Rattle.card_cells.proofs.Marking.{Marked}
use Rattle.card_cells.proofs.lent.lend.Given as goal

abbrev pub invariant-loop-i : goal.invariant-loop-i
invariant-loop-i l = Marked l.buffer l.len l.cells l.i
