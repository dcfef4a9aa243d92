-- `with_two` meets its contract: the definition computes to the code's numbers.
use mathlib.Core.Path.{refl}
use Rattle.four_values.specs.Products.{with_two}
use Rattle.four_values.proofs.with_two.Goals as goal

pub returns : goal.returns
unfolding with_two
returns c = refl
