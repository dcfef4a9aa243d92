-- `residual_cells` meets its contract: the factor that is there, or that of S formed whole, over whatever its cells hold by then. Assumes nothing.
use mathlib.Core.Path.{◌∙◌}
use lib.Ieee.{binary32}
use Rattle.filters.proofs.Steps.{residual}
use Rattle.residuals.proofs.Upper.{written_over}
use Rattle.residuals.proofs.Steps.{residual-taken}
use Rattle.residuals.proofs.residual_cells.Goals as goal

pub returns-then-m-i : goal.returns-then-m-i
returns-then-m-i c =
    let a = c.args in
    let q = c.factor_cells-i.ensures.taken c.if-m-i.true in
    let k = residual-taken binary32 a.n a.m a.p.now a.h.now a.r.now a.temp_hp.now a.s.now _ c.requires.5 c.mult_cells.ensures q.0 q.1 in record {
      index = k.0;
      hp = c.mult_cells.ensures;
      s = k.1;
    }

pub returns : goal.returns
returns c =
    let d = c.decompose_cells.ensures in
    let a = c.args in
    let f = c.factor_cells-i.ensures in
    let k = residual binary32 a.n a.m a.p.now a.h.now a.r.now a.temp_hp.now a.s.now _ _ c.requires.5 c.requires.4 c.mult_cells.ensures
    (c.whole_cells.ensures ∙ written_over a.m _ a.s.now c.factor_cells-i.new.s c.requires.6 c.requires.4 f.size f.past) d.index d.after in record {
      index = k.0;
      hp = c.mult_cells.ensures;
      s = k.1;
    }
