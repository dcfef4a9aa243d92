-- The two cases of the pivot.
use Rattle.std.proofs.Common.{arith}
use Rattle.std.specs.Float.{binary32}
use Rattle.grids.proofs.Steps.{set-cell}
use Rattle.factors.proofs.Below.{below_after}
use Rattle.columns.proofs.fill_column.Goals as goal

pub returns-in-Accepted-clause-after : goal.returns-in-Accepted-clause-after
returns-in-Accepted-clause-after c = let m = c.args in below_after binary32 m.n m.t.now m.i _ (omega arith) (omega arith) _ _ c.fill_below.ensures

pub returns-in-Refused-clause-after : goal.returns-in-Refused-clause-after
returns-in-Refused-clause-after c = let m = c.args in set-cell m.n m.t.now m.i m.i _ (omega arith) (omega arith) (omega arith)
