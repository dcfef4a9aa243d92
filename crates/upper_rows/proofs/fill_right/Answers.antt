-- A turn of four, and a turn of one.
use Rattle.std.proofs.Common.{arith}
use Rattle.upper_rows.proofs.Filling.{four-filled, one-filled}
use Rattle.upper_rows.proofs.fill_right.Goals as goal

pub loop-c-preserved : goal.loop-c-preserved
loop-c-preserved c = four-filled c.loop-c.invariant (omega arith) (omega arith) (omega arith) c.four_left.ensures c.scaled-v.ensures c.put.ensures

pub loop-d-preserved : goal.loop-d-preserved
loop-d-preserved c = one-filled c.loop-d.invariant (omega arith) (omega arith) (omega arith) c.one_left-v.ensures
