-- One number more at each turn (`proofs/Filling.antt`).
use Rattle.lists.proofs.Filling.{none_read, one_read}
use Rattle.lists.proofs.call.numbers.Goals as goal

pub loop-i-init : goal.loop-i-init
loop-i-init c = none_read _ _ _

pub loop-i-preserved : goal.loop-i-preserved
loop-i-preserved c = one_read _ _ _ _ _ _ _ _ c.loop-i-test.true c.loop-i.invariant c.word_at-w.ensures c.float_of.ensures
