-- A turn of four cells of the row and of the column, and a turn of one of each.
use Rattle.std.proofs.Common.{◌≡◌, ◌+◌, ◌*◌, refl, arith}
use Rattle.std.specs.Float.{binary32}
use Rattle.grids.specs.Grid.{cell}
use Rattle.factors.proofs.BackRows.{row_one, row_four}
use Rattle.factors.proofs.Crosses.{none-crossed}
use Rattle.second_pass.proofs.RowSums.{rows_in}
use Rattle.second_pass.proofs.rows.back_row.Goals as goal

pub loop-f-init : goal.loop-f-init
loop-f-init c = none-crossed

pub put_down-requires : goal.put_down-requires
put_down-requires c = omega (arith, rows_in c.args.n (c.loop-f.f * 4) 4 (omega arith))

pub loop-f-preserved : goal.loop-f-preserved
loop-f-preserved c =
    let m = c.args in
    let next : c.loop-f.f * 4 + 4 ≡ (c.loop-f.f + 1) * 4 = omega arith in
    rw (← next)
    (row_four binary32 (cell m.n m.l.now) (omega arith) (omega arith) c.loop-f.invariant (omega arith) refl refl c.scaled-v.ensures c.back_four.ensures c.recip-d.ensures
    c.put.ensures c.put_down.ensures)

pub loop-c-preserved : goal.loop-c-preserved
loop-c-preserved c =
    let m = c.args in
    row_one binary32 (cell m.n m.l.now) (omega arith) (omega arith) c.loop-c.invariant (omega arith) c.back_one.ensures c.recip-d.ensures
