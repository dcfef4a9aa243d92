-- One place more at each turn (`proofs/Placing.antt`).
use Rattle.std.proofs.Common.{rules}
use Rattle.card_bytes.proofs.Placing.{none-placed, one_placed}
use Rattle.card_bytes.proofs.expected.put_all.Goals as goal

pub loop-init : goal.loop-init
loop-init c = none-placed _ _ _ _

pub loop-preserved : goal.loop-preserved
loop-preserved c = one_placed _ _ _ _ _ _ _ _ _ (search rules) c.loop.invariant (search rules) c.put_one-next.ensures.behind c.put_one-next.ensures.put
