use native.Mathlib.Omega.{arith}
use Rattle.filters.proofs.Steps.{innovated}
use lib.Ieee.{binary32}
use Rattle.updates.proofs.innovate_cells.Goals as goal

pub returns : goal.returns
returns c =
    let a = c.args in
    innovated binary32 a.n a.m a.x.now a.h.now a.z.now a.y.now _ _ (omega arith) c.rowvector_cells.ensures c.sub_cells_b.ensures
