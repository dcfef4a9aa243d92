-- Each turn adds the term of row k; in the last row there are no terms.
use Rattle.std.proofs.Common.{refl, arith}
use Rattle.std.specs.Float.{binary32}
use Rattle.grids.specs.Grid.{cell}
use Rattle.second_pass.proofs.RowSums.{rows_in, no_terms, sum_begun, sum_more, sum_all}
use Rattle.second_pass.proofs.ones.back_one.Goals as goal

pub returns-then-i-n : goal.returns-then-i-n
returns-then-i-n c = let m = c.args in no_terms binary32 m.n (cell m.n m.l.now) (cell m.n m.inv.now) m.i m.c c.if-i-n.true refl

pub bounds-l-p : goal.bounds-l-p
bounds-l-p c = omega (arith, rows_in c.args.n c.args.i 2 (omega arith))

pub bounds-inv-p : goal.bounds-inv-p
bounds-inv-p c = omega (arith, rows_in c.args.n c.args.i 2 (omega arith))

pub loop-k-init : goal.loop-k-init
loop-k-init c = sum_begun (omega arith) refl refl refl

pub loop-k-preserved : goal.loop-k-preserved
loop-k-preserved c = sum_more c.loop-k.invariant (omega arith) refl refl refl

pub returns : goal.returns
returns c = sum_all c.loop-k.invariant (omega arith) refl refl
