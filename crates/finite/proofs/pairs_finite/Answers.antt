-- A turn tests one number more, and where the loop ends all are tested.
use Rattle.std.proofs.Common.{sym, arith, ◌≡◌}
use Rattle.numbers.proofs.Every.{every_more}
use Rattle.finite.proofs.pairs_finite.Goals as goal

pub loop-i-preserved : goal.loop-i-preserved
loop-i-preserved g c = λ h said. rw (c.also-all.ensures, c.loop-i.invariant h said, said _ _ c.op.result c.op.ensures) (sym (every_more _ _))

pub returns : goal.returns
returns g c = λ h said. let e : c.loop-i.i ≡ c.args.n = omega arith in rw (← e) (c.loop-i.invariant h said)
