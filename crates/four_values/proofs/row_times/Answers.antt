-- `row_times` meets its contract: the definition computes to the code's numbers.
use mathlib.Core.Path.{refl}
use lib.Ieee.{of_bits}
use Rattle.numbers.specs.Sums.{sum_from}
use Rattle.four_values.specs.Products.{row_times}
use Rattle.four_values.proofs.row_times.Goals as goal

pub returns : goal.returns
unfolding row_times sum_from of_bits
returns c = refl
