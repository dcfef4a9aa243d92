-- `cores::by_passes` meets its contract: one pass after the other.
use native.Mathlib.Omega.{arith}
use lib.Ieee.{binary32}
use Rattle.grids.specs.Grid.{cell}
use Rattle.factors.proofs.Mirrored.{both}
use Rattle.inverse.proofs.cores.by_passes.Goals as goal

pub returns : goal.returns
returns c =
    let m = c.args in
    both binary32 m.n (cell m.n m.l.now) m.inv.now _ _ (omega arith) c.solve.ensures c.solve_back.ensures
