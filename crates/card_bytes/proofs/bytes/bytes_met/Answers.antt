-- One byte more at each turn (`proofs/Comparing.antt`).
use Rattle.card_bytes.proofs.Comparing.{no_byte, one_byte}
use Rattle.card_bytes.proofs.bytes.bytes_met.Goals as goal

pub loop-i-init : goal.loop-i-init
loop-i-init c = no_byte _ _ _

pub loop-i-preserved : goal.loop-i-preserved
loop-i-preserved c = one_byte _ _ _ _ _ _ c.loop-i.invariant c.byte_met-more.ensures
