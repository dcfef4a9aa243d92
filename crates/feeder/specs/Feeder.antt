-- The feeder's filter: where it starts, its prediction, and its correction by a reading. Definitions only.
use Rattle.std.specs.Prelude.{◌≡◌, List, [], ◌∷◌, get_or, Float}
use Rattle.std.specs.Float.{nan, binary32}
use Rattle.std.specs.Float.Ieee.{of_bits}
use Rattle.answers.specs.Answers.{Answer}
use Rattle.grids.specs.Grid.{run, grid}
use Rattle.filters.specs.Prediction.{predicted_x, predicted_p}
use Rattle.filters.specs.Lent.{Buffers}
use Rattle.filters.specs.Corrected.{Corrected}
use Rattle.feeder.specs.declared.Feeder.{Feeder}

-- 0 and 1, by their bit patterns
abbrev pub zero32 : Float
zero32 = of_bits binary32 0

abbrev pub one32 : Float
one32 = of_bits binary32 0x3f800000

-- A = [1 1; 0 1]: the tension moves by its drift
abbrev pub model : List Float
model = one32 ∷ one32 ∷ zero32 ∷ one32 ∷ []

-- Q = [0.02 0; 0 0.001]
abbrev pub noise : List Float
noise = of_bits binary32 0x3ca3d70a ∷ zero32 ∷ zero32 ∷ of_bits binary32 0x3a83126f ∷ []

-- where the shift starts: x = [35 0], P = [9 0; 0 0.25]
abbrev pub at_start : Feeder
at_start = record { x = of_bits binary32 0x420c0000 ∷ zero32 ∷ []; p = of_bits binary32 0x41100000 ∷ zero32 ∷ zero32 ∷ of_bits binary32 0x3e800000 ∷ [] }

-- the estimate of the tension
abbrev pub tension_of : Feeder → Float
tension_of f = get_or f.x 0 nan

-- the feeder one step on: A·x, and A·P·Aᵀ + Q
abbrev pub forecast : Feeder → Feeder
forecast f =
    record {
      x = run 0 2 (predicted_x binary32 2 model f.x) f.x;
      p = grid 2 2 (predicted_p binary32 2 model f.p noise) f.p;
    }

-- the buffers of a correction by the reading z with the noise r: H = [1 0], and zeros to work in
abbrev pub lent_for : Feeder → Float → Float → Buffers
lent_for f z r =
    record {
      x = f.x;
      P = f.p;
      H = one32 ∷ zero32 ∷ [];
      z = z ∷ [];
      R = r ∷ [];
      y = zero32 ∷ [];
      S = zero32 ∷ [];
      K = zero32 ∷ zero32 ∷ [];
      s_inv = zero32 ∷ [];
      HP = zero32 ∷ zero32 ∷ [];
      PHt = zero32 ∷ zero32 ∷ [];
      KHP = zero32 ∷ zero32 ∷ zero32 ∷ zero32 ∷ [];
    }

-- The correction of f by the reading z with the noise r says v and leaves g: v and g are what the correction for two states and one observation promises.
pub record Took (f : Feeder) (z r : Float) (v : Answer) (g : Feeder) : Type 0 where
  pub left : Buffers
  pub corrected : Corrected binary32 2 1 (lent_for f z r) v left
  pub x : g.x ≡ left.x
  pub p : g.p ≡ left.P
