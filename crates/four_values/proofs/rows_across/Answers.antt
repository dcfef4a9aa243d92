-- `rows_across` meets its contract: the definition computes to the code's numbers.
use mathlib.Core.Path.{refl}
use lib.Ieee.{of_bits}
use Rattle.numbers.specs.Sums.{sum_from}
use Rattle.four_values.specs.Products.{rows_across}
use Rattle.four_values.proofs.rows_across.Goals as goal

pub returns : goal.returns
unfolding rows_across sum_from of_bits
returns c = refl
