-- `taken` meets its contract: its two tests say the definition's condition of any f32, for the pattern 0 is +0, and the other constant is the largest number. Assumes nothing.
use mathlib.Core.Path.{sym, subst}
use lib.Dec.{T}
use lib.Ieee.{binary32, of_bits}
use Rattle.factors.proofs.Taken.{taken_up_to}
use Rattle.pivots.proofs.taken.Goals as goal

pub returns-then-sum : goal.returns-then-sum
unfolding of_bits
returns-then-sum c = simp (taken_up_to binary32 c.args.sum (subst T (sym c.well_formed.0.1) tt), c.if-sum.true)

pub returns-else-sum : goal.returns-else-sum
unfolding of_bits
returns-else-sum c = simp (taken_up_to binary32 c.args.sum (subst T (sym c.well_formed.0.1) tt), c.if-sum.false)
