-- `turned` meets its contract: the definition computes to the code's numbers.
use mathlib.Core.Path.{refl}
use Rattle.four_values.specs.Products.{transposed}
use Rattle.four_values.proofs.turned.Goals as goal

pub returns : goal.returns
unfolding transposed
returns c = refl
