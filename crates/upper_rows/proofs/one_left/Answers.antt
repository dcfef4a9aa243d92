-- Each turn takes off the next product.
use Rattle.std.proofs.Common.{refl, arith}
use Rattle.upper_rows.proofs.Differences.{begun, lessened}
use Rattle.upper_rows.proofs.one_left.Goals as goal

pub loop-k-init : goal.loop-k-init
loop-k-init c = begun refl refl

pub loop-k-preserved : goal.loop-k-preserved
loop-k-preserved c = lessened c.loop-k.invariant (omega arith) refl refl
