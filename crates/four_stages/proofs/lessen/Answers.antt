-- `lessen` meets its contract: it is so row by row. Assumes nothing.
use Rattle.four_values.specs.Products.{differences}
use Rattle.four_stages.specs.Stages.{lessened}
use Rattle.four_values.proofs.Values.{sixteen_is}
use Rattle.four_stages.proofs.lessen.Goals as goal

pub returns : goal.returns
unfolding differences lessened
returns c = sixteen_is c.minus.ensures c.minus-2.ensures c.minus-3.ensures c.minus-4.ensures
