-- A turn stores one number more, of a cell that is as lent (`stored_more`), and where the loop ends all are stored.
use Rattle.std.proofs.Common.{◌≡◌, arith}
use Rattle.grids.proofs.Pairs.{stored_more}
use Rattle.sums.proofs.cores.combine.Goals as goal

pub loop-i-preserved : goal.loop-i-preserved
loop-i-preserved g c = λ h said. stored_more h c.loop-i.i _ _ c.loop-i.a c.op.result (c.loop-i.invariant h said) (said _ _ c.op.result c.op.ensures)

pub returns : goal.returns
returns g c = λ h said. let e : c.loop-i.i ≡ c.args.n = omega arith in rw (← e) (c.loop-i.invariant h said)
