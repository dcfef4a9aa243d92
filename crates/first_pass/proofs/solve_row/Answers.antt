-- A turn of four cells, a turn of one, and the diagonal's own cell, which ends the row.
use Rattle.std.proofs.Common.{refl, arith}
use Rattle.std.specs.Float.{binary32}
use Rattle.grids.proofs.Loops.{begun}
use Rattle.grids.proofs.Turns.{one_more}
use Rattle.first_pass.proofs.Rows.{one_bits, cell-solved, four_more_solved, row_solved}
use Rattle.first_pass.proofs.solve_row.Goals as goal

pub loop-f-init : goal.loop-f-init
loop-f-init c = begun

pub loop-f-preserved : goal.loop-f-preserved
loop-f-preserved c =
    let m = c.args in
    four_more_solved binary32 m.n m.l.now m.inv.now m.i c.requires.0 c.loop-f.inv c.loop-f.f c.loop-f.invariant (omega arith) c.recip-d.ensures c.scaled.ensures c.four_sums-t.ensures c.put.ensures

pub loop-j-preserved : goal.loop-j-preserved
loop-j-preserved c =
    let m = c.args in
    let w = c.loop-j in
    one_more w.invariant (omega arith) refl refl (cell-solved binary32 m.n m.l.now m.inv.now m.i c.requires.0 w.inv w.j w.invariant w.j (omega arith) c.recip-d.ensures refl c.one_sum-t.ensures)

pub returns : goal.returns
returns c =
    let m = c.args in
    let w = c.loop-j in
    row_solved binary32 m.n m.l.now m.inv.now m.i c.requires.0 w.inv w.j w.invariant (omega arith) (omega arith) one_bits c.recip-d.ensures
