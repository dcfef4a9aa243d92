-- The pivot step (R14), by its two cases: taken, with the root and its reciprocal; refused, with the pivot. Definitions only.
use Rattle.std.specs.Prelude.{cond, List, [], ◌∷◌, ℕ, Float}
use Rattle.std.specs.Float.{Format}
use Rattle.numbers.specs.Reciprocal.{recip_of}
use Rattle.numbers.specs.Root.{sqrt_of}
use Rattle.factors.specs.Pivots.{pivot_taken}
use Rattle.pivots.specs.declared.Pivot.{Pivot}
use Rattle.pivots.specs.declared.Pivot.TheVariants.{Accepted, Refused}

-- the pivot step on the computed sum s
abbrev pub pivot_of : Format → Float → Pivot
pivot_of f s = cond (pivot_taken s) (Accepted (sqrt_of f s) (recip_of f (sqrt_of f s))) (Refused s)

-- ---- what a pivot says: 4 for one that is refused, 0 for one that is taken; and the numbers that it carries

abbrev pub number_of : Pivot → ℕ
number_of (Accepted root reciprocal) = 0
number_of (Refused pivot) = 4

abbrev pub carried_by : Pivot → List Float
carried_by (Accepted root reciprocal) = root ∷ reciprocal ∷ []
carried_by (Refused pivot) = pivot ∷ []
