-- `put_sixteen` meets its contract: its four rows, one after the other.
use Rattle.grids.specs.Grid.{run}
use Rattle.four_values.proofs.Values.{sixteen_put}
use Rattle.four_values.proofs.put_sixteen.Goals as goal

pub returns : goal.returns
unfolding run
returns c = sixteen_put _ _ _ _ _ _ c.put.ensures c.put-2.ensures c.put-3.ensures c.put-4.ensures
