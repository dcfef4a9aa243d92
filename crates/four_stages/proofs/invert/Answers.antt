-- `invert` meets its contract: the definition computes to the code's numbers. Assumes nothing.
use mathlib.Core.Path.{refl}
use lib.Ieee.{of_bits}
use Rattle.four_stages.specs.Stages.{inverted}
use Rattle.four_stages.proofs.invert.Goals as goal

pub returns : goal.returns
unfolding inverted of_bits
returns c = refl
