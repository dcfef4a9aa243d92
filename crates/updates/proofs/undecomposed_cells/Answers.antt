-- `undecomposed_cells` meets its contract: a small sum as it comes, a larger one by way of the product. Assumes nothing.
use lib.Ieee.{binary32}
use Rattle.filters.proofs.Steps.{summed}
use Rattle.updates.proofs.undecomposed_cells.Goals as goal

pub returns-else-m-lt4 : goal.returns-else-m-lt4
returns-else-m-lt4 c =
    let a = c.args in
    summed binary32 a.n a.m a.temp_hp.now a.h.now a.r.now a.s.now _ c.requires.3 c.transb_cells.ensures c.add_cells_a.ensures
