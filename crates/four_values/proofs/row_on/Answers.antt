-- `row_on` meets its contract: the definition computes to the code's numbers.
use mathlib.Core.Path.{refl}
use Rattle.numbers.specs.Sums.{sum_from}
use Rattle.four_values.specs.Products.{row_dot}
use Rattle.four_values.proofs.row_on.Goals as goal

pub returns : goal.returns
unfolding row_dot sum_from
returns c = refl
