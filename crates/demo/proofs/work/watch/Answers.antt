-- A step more is what `advance` makes of the yarn.
use Rattle.yarn_shift.proofs.Watching.{one_step}
use Rattle.yarn_shift.specs.Step.{watched}
use Rattle.demo.proofs.work.watch.Goals as goal

pub loop-i-init : goal.loop-i-init
unfolding watched
loop-i-init g c = c.start-yarn.ensures

pub loop-i-preserved : goal.loop-i-preserved
loop-i-preserved g c = one_step _ _ _ _ c.loop-i.invariant c.arriving-g.ensures c.advance-s.ensures
