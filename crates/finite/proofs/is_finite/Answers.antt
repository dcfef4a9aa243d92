-- The test says `finite` of any float, for the pattern 0 is +0.
use lib.Ieee.{binary32, of_bits}
use Rattle.numbers.proofs.NotFinite.{finite_by}
use Rattle.finite.proofs.is_finite.Goals as goal

pub returns : goal.returns
unfolding of_bits
returns c = finite_by binary32 _
