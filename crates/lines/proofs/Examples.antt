-- `hex8_at` at a few lists, by computation. Assumes nothing.
use mathlib.Core.Path.{◌≡◌, refl}
use mathlib.Core.List.{[], ◌∷◌}
use Rattle.lines.specs.Hex.{digit_of, digits_from, hex8_at}
use Rattle.std.specs.Prelude.{None, Some}

-- `3fb504f3`
number : hex8_at (51 ∷ 102 ∷ 98 ∷ 53 ∷ 48 ∷ 52 ∷ 102 ∷ 51 ∷ []) 0 ≡ Some (record { bits = 0x3fb504f3; next = 8 })
unfolding digit_of digits_from
number = refl

-- ` ffffffff ` from position 1
behind : hex8_at (32 ∷ 102 ∷ 102 ∷ 102 ∷ 102 ∷ 102 ∷ 102 ∷ 102 ∷ 102 ∷ 32 ∷ []) 1 ≡ Some (record { bits = 0xffffffff; next = 9 })
unfolding digit_of digits_from
behind = refl

-- `3fB504f3`: a digit in upper case
upper : hex8_at (51 ∷ 102 ∷ 66 ∷ 53 ∷ 48 ∷ 52 ∷ 102 ∷ 51 ∷ []) 0 ≡ None
unfolding digit_of digits_from
upper = refl

-- `3fb504f`: a digit short
short : hex8_at (51 ∷ 102 ∷ 98 ∷ 53 ∷ 48 ∷ 52 ∷ 102 ∷ []) 0 ≡ None
unfolding digit_of digits_from
short = refl
