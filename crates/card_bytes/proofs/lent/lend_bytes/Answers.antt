-- One byte more at each turn (`proofs/Lending.antt`).
use Rattle.std.proofs.Common.{rules}
use Rattle.card_bytes.proofs.Lending.{none_lent, one_lent}
use Rattle.card_bytes.proofs.lent.lend_bytes.Goals as goal

pub loop-i-init : goal.loop-i-init
loop-i-init c = none_lent _

pub loop-i-preserved : goal.loop-i-preserved
loop-i-preserved c = one_lent _ _ _ _ (search rules) c.loop-i.invariant c.lent_byte.ensures
