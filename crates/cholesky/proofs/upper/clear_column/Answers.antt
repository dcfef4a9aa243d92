-- Each turn clears one row more of the column.
use Rattle.std.proofs.Common.{◌≡◌, ◌∙◌, arith}
use lib.Ieee.{of_bits}
use Rattle.factors.proofs.Triangle.{clear_start, clear_more, clear_end}
use Rattle.cholesky.proofs.upper.clear_column.Goals as goal

pub loop-j-init : goal.loop-j-init
loop-j-init c = let m = c.args in clear_start m.n m.t.now m.i (omega arith) (omega arith)

pub loop-j-preserved : goal.loop-j-preserved
unfolding of_bits
loop-j-preserved c =
    let m = c.args in
    let w = c.loop-j in
    clear_more m.n m.t.now m.i (omega arith) (omega arith) w.t w.j (omega arith) w.invariant

pub returns : goal.returns
returns c =
    let m = c.args in
    let k : c.loop-j.j ≡ m.i = omega arith in
    (rw k at c.loop-j.invariant) ∙ clear_end m.n m.t.now m.i (omega arith) (omega arith)
