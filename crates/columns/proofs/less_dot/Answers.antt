-- Each turn subtracts the next product.
use Rattle.std.proofs.Common.{refl, add-one}
use Rattle.factors.specs.Decomposition.{less_dot}
use Rattle.columns.proofs.less_dot.Goals as goal

pub loop-k-init : goal.loop-k-init
unfolding less_dot
loop-k-init c = refl

pub loop-k-preserved : goal.loop-k-preserved
unfolding less_dot
loop-k-preserved c = rw add-one (cc)
