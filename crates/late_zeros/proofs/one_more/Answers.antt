-- The law of its form, for what an `f32` holds.
use Rattle.std.proofs.Common.{sym, subst}
use lib.Dec.{T}
use lib.Ieee.{binary32, of_bits}
use Rattle.late_zeros.proofs.Starts.{one_more}
use Rattle.late_zeros.proofs.one_more.Goals as goal

pub returns : goal.returns
unfolding of_bits
returns c = one_more binary32 _ _ (subst T (sym c.well_formed.0.1) tt) _ (subst T (sym c.well_formed.1.1.0.1) tt)
