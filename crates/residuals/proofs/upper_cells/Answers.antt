-- `upper_cells` meets its contract: the products there, and R. Assumes nothing.
use lib.Ieee.{binary32}
use Rattle.residuals.proofs.Upper.{upper_added, added_size, added_past}
use Rattle.residuals.proofs.upper_cells.Goals as goal

pub returns : goal.returns
returns c =
    let a = c.args in
    let p = c.upper_products.ensures in
    let s = c.add_cells_a.ensures in
    let u = c.upper_products.new.s in record {
      upper = upper_added binary32 a.n a.m a.temp_hp.now a.h.now a.t.now a.r.now a.s.now u c.requires.8 c.requires.4 p.size p.upper s;
      size = added_size binary32 a.m a.r.now a.s.now u p.size s;
      past = added_past binary32 a.m a.r.now a.s.now u p.past s;
    }
