use native.Mathlib.Omega.{arith}
use Rattle.filters.proofs.Steps.{gain}
use lib.Ieee.{binary32}
use Rattle.updates.proofs.gain_cells.Goals as goal

pub returns : goal.returns
returns c =
    let i = c.invert_cells.ensures in
    let a = c.args in record {
      inverse = i;
      pht = c.transb_cells.ensures;
      k = gain binary32 a.n a.m a.p.now a.h.now a.s.now a.temp_s_inv.now a.k.now a.temp_pht.now _ _ (omega arith) (omega arith) i c.transb_cells.ensures c.mult_cells.ensures;
    }
