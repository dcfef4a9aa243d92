-- A step more is counted by what `advance` and `count` say of it.
use Rattle.shift.proofs.Counting.{at_start_lem, go_on}
use Rattle.demo.proofs.work.run.Goals as goal

pub loop-i-init : goal.loop-i-init
loop-i-init g c = rw c.start-f.ensures at_start_lem

pub loop-i-preserved : goal.loop-i-preserved
loop-i-preserved g c = rw c.count-t.ensures (go_on c.loop-i.invariant c.arriving-g.ensures c.advance-s.ensures)
