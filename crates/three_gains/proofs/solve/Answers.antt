-- `solve` meets its contract: the product's entries are read out of the array that they were just written to. Assumes nothing.
use native.Mathlib.Omega.{arith}
use lib.Ieee.{binary32}
use Rattle.entries.specs.Entries.{product}
use Rattle.three_gains.proofs.Laws.{solved_from}
use Rattle.three_gains.proofs.solve.Goals as goal

pub returns : goal.returns
returns c =
    let m = c.args in
    let made = c.four_columns in
    solved_from binary32 (product binary32 m.n 4 m.hp.now m.t.now) m.r.now _ _ (omega arith) made.ensures c.solve_three.ensures
