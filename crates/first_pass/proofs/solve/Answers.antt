-- Each turn solves a row more.
use Rattle.std.proofs.Common.{arith}
use native.Mathlib.Numerals.{add-one}
use Rattle.std.specs.Float.{binary32}
use Rattle.grids.specs.Grid.{cell}
use Rattle.factors.proofs.Sideways.{side_start, side_more}
use Rattle.first_pass.proofs.solve.Goals as goal

pub loop-i-init : goal.loop-i-init
loop-i-init c = let m = c.args in side_start binary32 m.n (cell m.n m.l.now) m.inv.now

pub loop-i-preserved : goal.loop-i-preserved
loop-i-preserved c =
    let m = c.args in
    let w = c.loop-i in
    rw add-one (side_more binary32 m.n (cell m.n m.l.now) m.inv.now w.inv _ w.i (omega arith) (omega arith) w.invariant c.solve_row.ensures)
