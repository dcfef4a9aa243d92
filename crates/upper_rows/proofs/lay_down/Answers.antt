-- Each turn moves one cell more; after the last one every cell is met.
use Rattle.std.proofs.Common.{◌≡◌, ◌∙◌, arith}
use lib.Ieee.{of_bits}
use Rattle.upper_rows.proofs.LaidRow.{laid_start, laid_more, laid_end}
use Rattle.upper_rows.proofs.lay_down.Goals as goal

pub loop-c-init : goal.loop-c-init
loop-c-init c = let m = c.args in laid_start m.n m.t.now m.i (omega arith) (omega arith)

pub loop-c-preserved : goal.loop-c-preserved
unfolding of_bits
loop-c-preserved c =
    let m = c.args in
    let w = c.loop-c in
    laid_more m.n m.t.now m.i (omega arith) (omega arith) w.t w.c (omega arith) (omega arith) w.invariant

pub returns : goal.returns
returns c =
    let m = c.args in
    let k : c.loop-c.c ≡ m.n = omega arith in
    (rw k at c.loop-c.invariant) ∙ laid_end m.n m.t.now m.i (omega arith) (omega arith)
