-- `spread_of` meets its contract: it is so row by row. Assumes nothing.
use Rattle.four_values.specs.Products.{pair_times}
use Rattle.four_stages.specs.Stages.{spread}
use Rattle.four_values.proofs.Values.{sixteen_is}
use Rattle.four_stages.proofs.spread_of.Goals as goal

pub returns : goal.returns
unfolding pair_times spread
returns c = sixteen_is c.pair_times.ensures c.pair_times-2.ensures c.pair_times-3.ensures c.pair_times-4.ensures
