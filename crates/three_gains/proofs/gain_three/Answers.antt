-- `gain_three` meets its contract: what its calls leave, by the laws of pivots that are taken and of a refused pivot (`proofs/Whole.antt`). Assumes nothing.
use native.Mathlib.Omega.{arith}
use lib.Ieee.{binary32}
use Rattle.three_gains.proofs.Whole.{taken, refused}
use Rattle.three_gains.proofs.gain_three.Goals as goal

pub returns-in-Some : goal.returns-in-Some
returns-in-Some c =
    let a = c.args in
    let k = taken binary32 a.n a.p.now a.h.now a.r.now _ a.temp_hp.now _ _ (omega (arith, c.requires)) c.requires.7 c.turn_three.ensures c.mult_cells.ensures c.solve.result c.solve.ensures c.in-Some.v a.s.now a.temp_s_inv.now a.temp_pht.now a.k.now c.in-Some.is c.gains.ensures.k c.gains.ensures.pht c.put_factor.ensures c.put_inverse.ensures in record {
      index = k.0;
      hp = k.1;
      s = k.2;
      inverse = k.3;
      pht = k.4;
      k = k.5;
    }

pub returns : goal.returns
returns c =
    let d = c.decompose_three.ensures in
    let a = c.args in
    let k = refused binary32 a.n a.p.now a.h.now a.r.now _ a.temp_hp.now _ _ (omega (arith, c.requires)) c.requires.7 c.turn_three.ensures c.mult_cells.ensures c.solve.result c.solve.ensures a.s.now a.temp_s_inv.now a.temp_pht.now a.k.now _ c.in_default.is c.requires.4 c.thin_plus.ensures d.index d.after in record {
      index = k.0;
      hp = k.1;
      s = k.2;
      inverse = k.3;
      pht = k.4;
      k = k.5;
    }
