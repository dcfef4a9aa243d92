-- What the wire brings in each step of the shift. Definitions only.
use Rattle.std.specs.Prelude.{◌≡◌, false, cond, None, Some, ℕ, eqb, Float}
use Rattle.std.specs.Float.{nan, inf, binary32}
use Rattle.std.specs.Float.Ieee.{of_bits}
use Rattle.wire.specs.Wire.{Reading}

-- the noise R in step n, counted from 0: 4, in step 11 not a number, and in step 15 +∞
abbrev pub noise_in : ℕ → Float
noise_in n = cond (eqb n 11) nan (cond (eqb n 15) (inf false) (of_bits binary32 0x40800000))

-- nothing arrives in step 6, and in each other step a reading with its noise; in step 13 it is not a number
abbrev pub Brings : ℕ → Reading → Type 0
Brings n None = n ≡ 6
Brings n (Some g) = (n ≡ 6 → ⊥) × (g.r ≡ noise_in n) × (n ≡ 13 → g.z ≡ nan)
