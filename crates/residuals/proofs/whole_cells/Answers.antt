-- `whole_cells` meets its contract: a small sum as it comes, a larger one by way of the product with the turned H. Assumes nothing.
use mathlib.Core.Path.{◌∙◌}
use native.Mathlib.Omega.{arith}
use lib.Ieee.{binary32}
use Rattle.grids.proofs.Grids.{grid_ext}
use Rattle.entries.proofs.Agree.{transposed_agrees}
use Rattle.filters.proofs.Steps.{summed}
use Rattle.residuals.proofs.whole_cells.Goals as goal

pub returns-else-m-lt4 : goal.returns-else-m-lt4
returns-else-m-lt4 c =
    let a = c.args in
    let turned = c.requires.8 (omega (arith, c.if-m-lt4.false)) in
    summed binary32 a.n a.m a.temp_hp.now a.h.now a.r.now a.s.now _ c.requires.4
    (c.wide_cells.ensures
    ∙ grid_ext a.m a.m _ _ a.s.now (λ r j lr lj. transposed_agrees binary32 a.m a.n a.m a.temp_hp.now a.t.now a.s.now a.h.now turned r j lj))
    c.add_cells_a.ensures
