-- Its steps are the definition's, for +0 is the pattern 0.
use Rattle.std.proofs.Common.{refl}
use lib.Ieee.{of_bits}
use Rattle.one_state.specs.OneState.{predicted}
use Rattle.one_state.proofs.OneState.predict.Goals as goal

pub returns : goal.returns
unfolding predicted of_bits
returns c = refl
