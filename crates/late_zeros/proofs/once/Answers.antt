-- The law of its form, for what an `f32` holds.
use Rattle.std.proofs.Common.{sym, subst}
use lib.Dec.{T}
use lib.Ieee.{binary32, of_bits}
use Rattle.late_zeros.proofs.Starts.{once}
use Rattle.late_zeros.proofs.once.Goals as goal

pub returns : goal.returns
unfolding of_bits
returns c = once binary32 _ _ (subst T (sym c.well_formed.0.1) tt)
