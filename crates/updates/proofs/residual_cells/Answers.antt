-- `residual_cells` meets its contract: the law of its three steps, at what each call leaves. Assumes nothing.
use lib.Ieee.{binary32}
use Rattle.filters.proofs.Steps.{residual}
use Rattle.updates.proofs.residual_cells.Goals as goal

pub returns : goal.returns
returns c =
    let d = c.decompose_cells.ensures in
    let a = c.args in
    let k = residual binary32 a.n a.m a.p.now a.h.now a.r.now a.temp_hp.now a.s.now _ _ c.requires.5 c.requires.4 c.mult_cells.ensures c.undecomposed_cells.ensures d.index d.after in record {
      index = k.0;
      hp = c.mult_cells.ensures;
      s = k.1;
    }
