-- `move_by` meets its contract: the definition computes to the code's numbers. Assumes nothing.
use mathlib.Core.Path.{refl}
use Rattle.numbers.specs.Sums.{sum_from}
use Rattle.four_stages.specs.Stages.{moved}
use Rattle.four_stages.proofs.move_by.Goals as goal

pub returns : goal.returns
unfolding moved sum_from
returns c = refl
