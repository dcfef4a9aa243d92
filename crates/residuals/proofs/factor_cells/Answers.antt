-- `factor_cells` meets its contract: few observations have no factor here, and for the others the upper triangle decides. Assumes nothing.
use mathlib.Core.Path.{◌∙◌}
use lib.Ieee.{binary32}
use Rattle.residuals.proofs.Upper.{upper_taken}
use Rattle.residuals.proofs.factor_cells.Goals as goal

pub returns : goal.returns
returns c =
    let a = c.args in
    let p = c.upper_cells.ensures in
    let q = c.factor_rows.ensures in record {
      taken = upper_taken binary32 a.m _ a.s.now c.upper_cells.new.s c.requires.7 c.requires.4 p.size p.upper p.past q.index q.after;
      size = q.size ∙ p.size;
      past = (λ k h. q.past k h ∙ p.past k h);
    }
