-- The bytes below the index are as they are lent (`proofs/Lending.antt`).
use Rattle.card_bytes.proofs.Lending.{Lending}
use Rattle.card_bytes.proofs.lent.lend_bytes.Given as goal

abbrev pub invariant-loop-i : goal.invariant-loop-i
invariant-loop-i l = Lending l.initial.bytes l.bytes l.i
