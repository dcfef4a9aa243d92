-- Bit patterns of numbers. Definitions only.
use Rattle.std.specs.Prelude.{Bool, cond, ℕ, eqb, Float}
use Rattle.std.specs.Float.{Format, binary32, binary64}
use Rattle.std.specs.Float.Ieee.{to_bits, nan_bits, is_nan}

-- the pattern that is written for a NaN: the quiet one without a sign
abbrev pub quiet : Format → ℕ
quiet binary32 = 0x7fc00000
quiet binary64 = 0x7ff8000000000000

-- the pattern of a number
abbrev pub pattern_of : Format → Float → ℕ
pattern_of f x = cond (is_nan x) (quiet f) (to_bits f x)

-- the same in binary32: 7fc00000 for NaN
abbrev pub bits_of : Float → ℕ
bits_of x = pattern_of binary32 x

-- the pattern of the number that a pattern stands for: the same one, but where it is a NaN's
abbrev pub quieted : Format → ℕ → ℕ
quieted f b = cond (nan_bits f b) (quiet f) b

-- two patterns are of the same number: they are equal, or both are a NaN's
abbrev pub same_bits : ℕ → ℕ → Bool
same_bits a b = cond (nan_bits binary32 a) (nan_bits binary32 b) (eqb a b)
