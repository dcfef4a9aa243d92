-- The fraction t of a subnormal value moved up to the format's prec digits, in a word of w bits: by t's leading zeros in the word, less those that prec digits leave. Assumes nothing.
use mathlib.Core.Path.{◌≡◌, sym, ap, ◌∙◌}
use Prim.Native.Nat.{ℕ, suc, ◌+◌, ◌-◌, ◌*◌, ◌%◌, ◌^◌, ◌≤◌, ◌<◌}
use native.Mathlib.Nat.{pos_of_ne-zero, le_trans, le_of_eq, lt_of_not-le, lt_of_lt_of_le, lt_of_le_of_lt, not-le_of_lt, mul_assoc, mul-le-mul_right, mod-eq_of_lt}
use native.Mathlib.Omega.{arith}
use lib.Pow.{pow-add, pow_mono, shl_lt}
use lib.Count.{count_leading_zeros, leading_top}
use lib.Ieee.{Format, binary32, binary64, prec, low, hid}
use Rattle.data_type.proofs.Patterns.{base}

-- how far t moves, and what it moves to
abbrev pub lift : Format → ℕ → ℕ → ℕ
lift f w t = count_leading_zeros w t - (w - prec f)

abbrev pub moved : Format → ℕ → ℕ → ℕ
moved f w t = t * 2 ^ lift f w t % 2 ^ w

-- what the code asks of the move: `zeros` that the count is enough, `short` that the shift is small, the rest that what comes of it has prec digits and the same value
pub record Moved (f : Format) (w t : ℕ) : Type 0 where
  pub zeros : w - prec f ≤ count_leading_zeros w t
  pub short : lift f w t ≤ prec f - 1
  pub least : hid f ≤ moved f w t
  pub most : moved f w t < 2 ^ prec f
  pub value : t * 2 ^ low f ≡ moved f w t * 2 ^ (prec f + (base f - lift f w t))

-- moving t up by u takes u off d
spread : (f : Format) (u : ℕ) → u ≤ prec f - 1 → u + (prec f + (base f - u)) ≡ low f
spread binary32 u h = omega arith
spread binary64 u h = omega arith

module _ (f : Format) (w t : ℕ) (room : prec f ≤ w) (some : t ≡ 0 → ⊥) (small : t < hid f) where
  -- the place j of the leading digit of t
  lead : (j : ℕ) × (count_leading_zeros w t + suc j ≡ w) × (2 ^ j ≤ t) × (t < 2 ^ suc j)
  lead = leading_top w t (pos_of_ne-zero some) (lt_of_lt_of_le small (pow_mono (omega arith)))

  -- a normal value has its leading digit higher
  below : lead.0 < prec f - 1
  below = lt_of_not-le (λ (g : prec f - 1 ≤ lead.0). not-le_of_lt (lt_of_le_of_lt lead.2 small) (pow_mono g))

  moves : lead.0 + lift f w t ≡ prec f - 1
  moves = omega (arith, lead.1, below)

  over : hid f ≤ t * 2 ^ lift f w t
  over = le_trans (le_of_eq (ap (λ (x : ℕ). 2 ^ x) (sym moves) ∙ pow-add 2 lead.0 (lift f w t))) (mul-le-mul_right (2 ^ lift f w t) lead.2)

  under : t * 2 ^ lift f w t < 2 ^ prec f
  under =
      let e : suc lead.0 + lift f w t ≡ prec f = omega (arith, moves, below) in
      rw e at (shl_lt (suc lead.0) (lift f w t) lead.3)

  -- nothing is shifted out
  whole : moved f w t ≡ t * 2 ^ lift f w t
  whole = mod-eq_of_lt (lt_of_lt_of_le under (pow_mono room))

  pub moved_up : Moved f w t
  moved_up =
      let u = lift f w t in
      let d = prec f + (base f - u) in
      let h : u ≤ prec f - 1 = omega (arith, moves) in
      record {
        zeros = omega (arith, lead.1, below);
        short = h;
        least = rw whole over;
        most = rw whole under;
        value = ap (λ (x : ℕ). t * x) (ap (λ (x : ℕ). 2 ^ x) (sym (spread f u h)) ∙ pow-add 2 u d) ∙ sym (mul_assoc t (2 ^ u) (2 ^ d)) ∙ ap (λ (x : ℕ). x * 2 ^ d) (sym whole);
      }
