-- As many numbers as the index says are read (`proofs/Filling.antt`).
use Rattle.lists.proofs.Filling.{Read}
use Rattle.lists.proofs.call.numbers.Given as goal

abbrev pub invariant-loop-i : goal.invariant-loop-i
invariant-loop-i l = Read l.s l.at l.len l.cells l.next l.i
