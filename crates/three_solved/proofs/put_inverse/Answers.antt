-- `put_inverse` meets its contract: the cells are stored in the order of their places, and the definition computes to the same nine (`proofs/Puts.antt`). Assumes nothing.
use lib.Ieee.{of_bits}
use Rattle.three_solved.proofs.Puts.{inverse_put}
use Rattle.three_solved.proofs.put_inverse.Goals as goal

pub returns : goal.returns
unfolding of_bits
returns c =
    let m = c.args in
    inverse_put m.v m.inv.now _ _ c.put_four.ensures c.put_four-2.ensures
