-- By the code: where it is 0 the counts that the call says are stored, and otherwise those that were lent stay.
use Rattle.std.proofs.Common.{eq-eqb}
use borrow.Author.Tests.{ne_eqb}
use Rattle.c_feeders.proofs.Counted.{counts_stored, counts_left}
use Rattle.c_feeders.proofs.yurgamysh_feeders_correct.Goals as goal

pub returns-then-s-eq0 : goal.returns-then-s-eq0
returns-then-s-eq0 c = counts_stored c.args.counts.now c.correct.ensures c.said-s.ensures (eq-eqb c.said-s.result.code 0 c.if-s-eq0.true)

pub returns-else-s-eq0 : goal.returns-else-s-eq0
returns-else-s-eq0 c = counts_left c.args.counts.now c.correct.ensures c.said-s.ensures (ne_eqb c.said-s.result.code 0 c.if-s-eq0.false)
