-- Each turn does the row and the column before those that are done.
use Rattle.std.proofs.Common.{arith}
use Rattle.std.specs.Float.{binary32}
use Rattle.grids.specs.Grid.{cell}
use Rattle.factors.proofs.Mirrored.{none-back, row_back, all_back}
use Rattle.second_pass.proofs.solve_back.Goals as goal

pub loop-i-init : goal.loop-i-init
loop-i-init c = let m = c.args in none-back binary32 m.n (cell m.n m.l.now) m.inv.now

pub loop-i-preserved : goal.loop-i-preserved
loop-i-preserved c =
    let m = c.args in
    let w = c.loop-i in
    row_back binary32 m.n (cell m.n m.l.now) m.inv.now w.inv _ w.i (omega arith) (omega arith) (omega arith) w.invariant c.back_row.ensures

pub returns : goal.returns
returns c = let m = c.args in all_back binary32 m.n (cell m.n m.l.now) m.inv.now _ c.loop-i.i (omega arith) c.loop-i.invariant
