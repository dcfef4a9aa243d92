-- Where no pivot is refused, the upper triangle is cleared.
use Rattle.std.proofs.Common.{sym, arith}
use Rattle.std.specs.Float.{binary32}
use Rattle.factors.proofs.Sweep.{cleared}
use Rattle.cholesky.proofs.cores.decompose_cells.Goals as goal

pub returns-clause-after : goal.returns-clause-after
returns-clause-after c =
    let m = c.args in
    let s = c.fill_columns-i.ensures in
    cleared binary32 m.n m.t.now _ _ _ (omega arith) c.if-i-n.false (sym s.index) s.after c.clear_upper.ensures
