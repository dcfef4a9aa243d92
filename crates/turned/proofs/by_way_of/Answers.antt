-- The product with the transpose's transpose (`by_transpose`).
use Rattle.std.proofs.Common.{rules}
use Rattle.std.specs.Float.{binary32}
use Rattle.entries.proofs.Turned.{by_transpose}
use Rattle.turned.proofs.by_way_of.Goals as goal

pub returns-clause-c : goal.returns-clause-c
returns-clause-c c =
    let m = c.args in
    by_transpose binary32 m.rows m.inner m.cols m.a.now m.b.now m.c.now _ _ _ c.turn.ensures c.wide_cells.ensures (search rules)
