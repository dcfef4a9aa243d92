-- Each turn adds to each of the four its term of row k; in the last row there are no terms.
use Rattle.std.proofs.Common.{refl, arith}
use Rattle.std.specs.Float.{binary32}
use Rattle.grids.specs.Grid.{cell}
use Rattle.second_pass.proofs.RowSums.{four-none, four_begun, four_more, four_all}
use Rattle.second_pass.proofs.fours.back_four.Goals as goal

pub returns-then-i-n : goal.returns-then-i-n
returns-then-i-n c = let m = c.args in four-none binary32 m.n (cell m.n m.l.now) m.inv.now m.i m.c c.if-i-n.true c.read-start.ensures

pub loop-k-init : goal.loop-k-init
loop-k-init c = four_begun (omega arith) c.times-t.ensures refl refl

pub loop-k-preserved : goal.loop-k-preserved
loop-k-preserved c = four_more c.loop-k.invariant (omega arith) c.more-t.ensures refl refl

pub returns : goal.returns
returns c = four_all c.loop-k.invariant (omega arith) c.plus.ensures c.read-start.ensures refl
