-- `observe` meets its contract: each part is that of its rows. Assumes nothing.
use mathlib.Core.Path.{ap}
use lib.Ieee.{binary32, sub}
use Rattle.side_by_side.specs.declared.Four.{Four}
use Rattle.four_values.specs.Products.{row_times, rows_across, row_dot}
use Rattle.four_stages.specs.Stages.{innovation, projected, residual}
use Rattle.four_values.proofs.Values.{eight_is, sums}
use Rattle.four_stages.proofs.observe.Goals as goal

pub returns : goal.returns
unfolding row_times rows_across row_dot innovation projected residual
returns c = record {
  y0_is = ap (sub binary32 c.args.b.z0) c.row_on.ensures;
  y1_is = ap (sub binary32 c.args.b.z1) c.row_on-2.ensures;
  g_is = eight_is c.row_times-g0.ensures c.row_times-g1.ensures;
  s_is = ap (λ (q : Four). sums q c.args.b.r) c.rows_across-s.ensures;
}
