-- As many places as the counter says are put (`proofs/Placing.antt`).
use Rattle.card_bytes.proofs.Placing.{Placed}
use Rattle.card_bytes.proofs.expected.put_all.Given as goal

abbrev pub invariant-loop : goal.invariant-loop
invariant-loop l = Placed l.s l.at l.initial.text l.many l.text l.next l.counter
