-- `minus` meets its contract: the definition computes to the code's numbers.
use mathlib.Core.Path.{refl}
use Rattle.four_values.specs.Products.{differences}
use Rattle.four_values.proofs.minus.Goals as goal

pub returns : goal.returns
unfolding differences
returns c = refl
