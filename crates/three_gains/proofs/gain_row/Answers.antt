-- `gain_row` meets its contract: three sums of three products, each from +0. Assumes nothing.
use mathlib.Core.Path.{refl}
use lib.Ieee.{of_bits}
use Rattle.numbers.specs.Sums.{sum_from}
use Rattle.three_gains.proofs.gain_row.Goals as goal

pub returns : goal.returns
unfolding of_bits sum_from
returns c = (refl, refl, refl)
