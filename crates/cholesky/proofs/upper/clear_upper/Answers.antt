-- Each turn clears one column more.
use Rattle.std.proofs.Common.{◌≡◌, ◌∙◌, arith}
use Rattle.factors.proofs.Triangle.{upper_start, upper_more, upper_end}
use Rattle.cholesky.proofs.upper.clear_upper.Goals as goal

pub loop-i-init : goal.loop-i-init
loop-i-init c = upper_start c.args.n c.args.t.now

pub loop-i-preserved : goal.loop-i-preserved
loop-i-preserved c =
    let m = c.args in
    let w = c.loop-i in
    upper_more m.n m.t.now w.t _ w.i (omega arith) w.invariant c.clear_column.ensures

pub returns : goal.returns
returns c =
    let m = c.args in
    let k : c.loop-i.i ≡ m.n = omega arith in
    (rw k at c.loop-i.invariant) ∙ upper_end m.n m.t.now
