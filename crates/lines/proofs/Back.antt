-- A number and its pattern, in either format: the pattern of a number that the format holds stands for that number, and the number that a pattern stands for has that pattern,
-- but where it is a NaN's. The pattern that is written for a NaN is the one that the library's `to_bits` has for it, so its laws do. Assumes nothing.
use mathlib.Core.Path.{◌≡◌, refl, sym, ap, ◌∙◌, subst}
use mathlib.Core.Bool.{Bool, true, false, not}
use Prim.Native.Nat.{ℕ, ◌*◌, ◌<◌}
use lib.Dec.{T}
use lib.Ieee.{Float, nan, inf, fin, Format, binary32, binary64, fits, is_nan, top, of_bits, to_bits}
use lib.Ieee.Bits.{of_bits-to_bits, to_bits-lt, to_bits-of_bits, nan_bits_is}
use Rattle.lines.specs.Pattern.{quiet, pattern_of, quieted}

-- what is written for a NaN
quiet_bits : (f : Format) → quiet f ≡ to_bits f nan
unfolding to_bits
quiet_bits binary32 = refl
quiet_bits binary64 = refl

pub pattern_bits : (f : Format) (x : Float) → pattern_of f x ≡ to_bits f x
unfolding is_nan
pattern_bits f nan = quiet_bits f
pattern_bits f (inf s) = refl
pattern_bits f (fin s m e) = refl

module _ (f : Format) (x : Float) (held : T (fits f x)) where
  -- the pattern has no more digits than the format has
  pub pattern_small : pattern_of f x < 2 * top f
  pattern_small = subst (λ (b : ℕ). b < 2 * top f) (sym (pattern_bits f x)) (to_bits-lt f x held)

  -- and stands for the number
  pub pattern_back : of_bits f (pattern_of f x) ≡ x
  pattern_back = ap (of_bits f) (pattern_bits f x) ∙ of_bits-to_bits f x held

-- A pattern that is read as a number and written again: the same one, but of a NaN the one that is written for every NaN.
pub pattern_again : (f : Format) (b : ℕ) → b < 2 * top f → pattern_of f (of_bits f b) ≡ quieted f b
pattern_again f b h = at (is_nan (of_bits f b)) refl
  where
    at : (t : Bool) → is_nan (of_bits f b) ≡ t → pattern_of f (of_bits f b) ≡ quieted f b
    at true e = rw (nan_bits_is f b, e)
    at false e = rw (nan_bits_is f b, e) (to_bits-of_bits f b h (subst (λ (t : Bool). T (not t)) (sym e) tt))
