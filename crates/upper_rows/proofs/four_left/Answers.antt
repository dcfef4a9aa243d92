-- Each turn takes off each of the four its next product.
use Rattle.std.proofs.Common.{arith}
use Rattle.upper_rows.proofs.Differences.{four_begun, four-lessened, all_four}
use Rattle.upper_rows.proofs.four_left.Goals as goal

pub loop-k-init : goal.loop-k-init
loop-k-init c = four_begun c.read-v.ensures

pub loop-k-preserved : goal.loop-k-preserved
loop-k-preserved c = four-lessened c.loop-k.invariant (omega arith) c.less-v.ensures

pub returns : goal.returns
returns c = all_four c.loop-k.invariant (omega arith)
