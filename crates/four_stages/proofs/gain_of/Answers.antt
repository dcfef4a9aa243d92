-- `gain_of` meets its contract: P·Hᵀ and the gain are so half by half. Assumes nothing.
use Rattle.four_values.specs.Products.{rows_across, square_times}
use Rattle.four_stages.specs.Stages.{crossed, gained}
use Rattle.four_values.proofs.Values.{eight_is}
use Rattle.four_stages.proofs.gain_of.Goals as goal

pub returns : goal.returns
unfolding rows_across square_times crossed gained
returns c = (
  c.invert-i.ensures,
  eight_is c.rows_across-f0.ensures c.rows_across-f1.ensures,
  eight_is c.square_times.ensures c.square_times-2.ensures,
)
