-- `invert_three` meets its contract: the nine numbers that it stores are the definition's (`proofs/Entries.antt`). Assumes nothing.
use lib.Ieee.{binary32, of_bits}
use Rattle.three_inverse.proofs.Entries.{inverse_put}
use Rattle.three_inverse.proofs.invert_three.Goals as goal

pub returns : goal.returns
unfolding of_bits
returns c =
    let m = c.args in
    inverse_put binary32 m.l.now m.inv.now _ _ _ _ _ c.recip-d0.ensures c.recip-d1.ensures c.recip-d2.ensures c.put_four.ensures c.put_four-2.ensures
