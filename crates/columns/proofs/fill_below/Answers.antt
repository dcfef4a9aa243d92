-- Each turn fills one row more of the column.
use Rattle.std.proofs.Common.{◌∙◌, arith}
use Rattle.std.specs.Float.{binary32}
use Rattle.grids.proofs.Steps.{up_all}
use Rattle.factors.proofs.Below.{below_start, below_more}
use Rattle.columns.proofs.fill_below.Goals as goal

pub loop-j-init : goal.loop-j-init
loop-j-init c = let m = c.args in below_start binary32 m.n m.t.now m.i m.d (omega arith) (omega arith)

pub loop-j-preserved : goal.loop-j-preserved
loop-j-preserved c =
    let m = c.args in
    let w = c.loop-j in
    rw c.rest_at-sum.ensures (below_more binary32 m.n m.t.now m.i m.d (omega arith) (omega arith) w.t w.j (omega arith) (omega arith) w.invariant)

pub returns : goal.returns
returns c = let m = c.args in c.loop-j.invariant ∙ up_all m.n c.loop-j.j _ _ m.t.now (λ r k hr h. absurd (omega arith))
