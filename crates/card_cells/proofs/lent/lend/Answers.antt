-- One number more at each turn (`proofs/Marking.antt`).
use Rattle.card_cells.proofs.Marking.{none-marked, one-marked}
use Rattle.card_cells.proofs.lent.lend.Goals as goal

pub loop-i-init : goal.loop-i-init
loop-i-init c = none-marked _ _

pub loop-i-preserved : goal.loop-i-preserved
loop-i-preserved c = one-marked _ _ _ _ _ _ c.loop-i-test.true c.loop-i.invariant c.lent_bits.ensures c.float_of.ensures
