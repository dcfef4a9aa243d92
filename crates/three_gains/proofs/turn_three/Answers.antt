-- `turn_three` meets its contract: a loop that writes row after row, each the four numbers of a column. Assumes nothing.
use mathlib.Core.Path.{refl}
use Prim.Native.Nat.{◌*◌}
use native.Mathlib.Omega.{arith}
use Rattle.grids.specs.Grid.{cell}
use Rattle.grids.proofs.Loops.{begun}
use Rattle.grids.proofs.Overlap.{last_four}
use Rattle.grids.proofs.Turns.{no_rows, row_more}
use Rattle.three_gains.specs.Widened.{widened}
use Rattle.three_gains.proofs.turn_three.Goals as goal

pub loop-k-init : goal.loop-k-init
loop-k-init c = no_rows

pub loop-k-preserved : goal.loop-k-preserved
loop-k-preserved c =
    let m = c.args in
    let k = c.loop-k.k in
    row_more c.loop-k.invariant c.loop-k-test.true
    (last_four {at = k * 4} {n = 4} {g = widened (cell m.n m.h.now) k} {last = 0} begun refl (omega arith) (omega arith) c.column.ensures c.put.ensures)
    (λ j. refl)
