-- `put_eight` meets its contract: its two halves, one after the other.
use Rattle.grids.specs.Grid.{run}
use Rattle.four_values.proofs.Values.{eight_put}
use Rattle.four_values.proofs.put_eight.Goals as goal

pub returns : goal.returns
unfolding run
returns c = eight_put _ _ _ _ c.put.ensures c.put-2.ensures
