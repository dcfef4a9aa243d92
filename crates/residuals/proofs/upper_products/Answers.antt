-- `upper_products` meets its contract: a whole product has the upper triangle too. Assumes nothing.
use mathlib.Core.Path.{ap, ◌∙◌}
use mathlib.Core.List.{List}
use native.Mathlib.Omega.{arith}
use lib.ListN.{length, get_or}
use lib.Ieee.{Float, binary32, nan}
use Rattle.grids.specs.Grid.{cell}
use Rattle.grids.proofs.Grids.{length-grid, grid_past, grid-cell}
use Rattle.entries.specs.Entries.{product}
use Rattle.residuals.proofs.upper_products.Goals as goal

pub returns-then-m-lt13 : goal.returns-then-m-lt13
returns-then-m-lt13 c =
    let a = c.args in
    let w = c.wide_cells.ensures in
    let e = product binary32 a.n a.m a.temp_hp.now a.t.now in record {
      upper = (λ r j h k. ap (λ (l : List Float). cell a.m l r j) w ∙ grid-cell a.m a.m e a.s.now r j (omega (arith, h, k)) k c.requires.2);
      size = ap length w ∙ length-grid a.m a.m e a.s.now;
      past = (λ k h. ap (λ (l : List Float). get_or l k nan) w ∙ grid_past a.m a.m e a.s.now k h);
    }
