-- A turn writes x in one row more, and where the loop ends in all.
use Rattle.grids.proofs.Diagonals.{none_dotted, dotted, all_dotted}
use Rattle.cells.proofs.cores.fill_diagonal.Goals as goal

pub loop-i-init : goal.loop-i-init
loop-i-init c = none_dotted _ _ _

pub loop-i-preserved : goal.loop-i-preserved
loop-i-preserved c = dotted _ _ _ _ _ c.requires c.loop-i.invariant c.loop-i-test.true

pub returns : goal.returns
returns c = all_dotted _ _ _ _ _ c.loop-i.invariant c.loop-i-test.false
