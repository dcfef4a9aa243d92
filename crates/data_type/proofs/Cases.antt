-- The cases of `square_root`, for a value x of a format and its bit pattern b with the fields e and t: each says what the code returns there, by what the fields stand for. Assumes nothing.
use mathlib.Core.Path.{◌≡◌, refl, sym, ap, ◌∙◌, subst}
use mathlib.Core.Bool.{Bool, true, false, not, cond, false≢true}
use Prim.Native.Nat.{ℕ, zero, suc, ◌+◌, ◌-◌, ◌*◌, ◌^◌, ◌≤◌, ◌<◌}
use native.Mathlib.Nat.{le_of_suc-le-suc, le-add_right, lt_of_lt_of_le, lt_irrefl, pos_of_ne-zero, zero-lt-suc, zero-mul, mul_assoc, mul-pos, mod-lt}
use native.Mathlib.Omega.{arith}
use lib.Dec.{T, leb, eqb}
use lib.Arith.{lt_of_le-ne}
use lib.Pow.{pow-add, pow_pos}
use lib.Ieee.{Float, nan, inf, fin, Format, binary32, binary64, prec, low, hid, ones, top, up, of_fields, of_bits, to_bits, is_nan, ne, div, fits}
use lib.Ieee.Fits.{down_pos}
use lib.Ieee.Bits.{of_bits-to_bits, to_bits-lt}
use lib.Ieee.Compare.{differs_from_itself}
use lib.Ieee.Exact.{HasValue}
use borrow.Author.Tests.{eqb-true, eqb-false, lt-leb, le-leb}
use Rattle.numbers.specs.Root.{sqrt_of}
use Rattle.numbers.specs.Pattern.{root_bits}
use Rattle.data_type.proofs.Patterns.{field, digits, digits_lt, base, of_fields_lem, at_ones, subnormal, normal, root_result}
use Rattle.data_type.proofs.NotNan.{not_nan}

-- ---- a NaN, either zero, and +∞ are their own roots
pub own_nan : (f : Format) (x : Float) → ne x x ≡ true → x ≡ sqrt_of f x
unfolding sqrt_of
own_nan f x h = let e : x ≡ nan = differs_from_itself x (subst T (sym h) tt) in subst (λ (y : Float). y ≡ sqrt_of f y) (sym e) refl

own_zero : (f : Format) (s : Bool) → of_fields f s 0 0 ≡ sqrt_of f (of_fields f s 0 0)
unfolding sqrt_of of_fields
own_zero f s = refl

own_inf : (f : Format) (t : ℕ) → T (not (is_nan (of_fields f false (ones f) t))) → of_fields f false (ones f) t ≡ sqrt_of f (of_fields f false (ones f) t)
unfolding sqrt_of is_nan
own_inf f t h = rw at_ones (go (eqb t 0) (rw at_ones at h))
  where
    go : (b : Bool) → T (not (is_nan (cond b (inf false) nan))) → cond b (inf false) nan ≡ sqrt_of f (cond b (inf false) nan)
    go true h = refl
    go false h = absurd h

-- ---- the root of what is below zero is a NaN, and the code's 0.0 / 0.0 is one
no_number : (f : Format) → div f (of_bits f 0) (of_bits f 0) ≡ nan
unfolding div of_bits
no_number binary32 = refl
no_number binary64 = refl

below_zero : (f : Format) (x : Float) (a : ℕ) → HasValue x true a (2 ^ low f) → 0 < a → sqrt_of f x ≡ nan
unfolding sqrt_of
below_zero f nan a h z = absurd h
below_zero f (inf s) a h z = absurd h
below_zero f (fin s zero e) a h z = absurd (lt_irrefl 0 (subst (λ (x : ℕ). 0 < x) (sym h.1 ∙ ap (λ (x : ℕ). x * 2 ^ low f) (zero-mul (up e)) ∙ zero-mul (2 ^ low f)) (mul-pos z (down_pos e))))
below_zero f (fin true (suc m) e) a h z = refl
below_zero f (fin false (suc m) e) a h z = absurd (false≢true h.0)

below_inf : (f : Format) (t : ℕ) → sqrt_of f (of_fields f true (ones f) t) ≡ nan
unfolding sqrt_of
below_inf f t = rw at_ones (go (eqb t 0))
  where
    go : (b : Bool) → sqrt_of f (cond b (inf true) nan) ≡ nan
    go true = refl
    go false = refl

-- ---- a normal value: its digits with the leading one, and its size
with_lead : (f : Format) (t : ℕ) → t < hid f → hid f + t < 2 ^ prec f
with_lead binary32 t h = omega arith
with_lead binary64 t h = omega arith

-- its d is e + (base - 1)
normal_value : (f : Format) (m e : ℕ) → (e ≡ 0 → ⊥) → m * 2 ^ (e - 1) * 2 ^ low f ≡ m * 2 ^ (prec f + (e + (base f - 1)))
normal_value f m e h = mul_assoc m (2 ^ (e - 1)) (2 ^ low f) ∙ ap (λ (x : ℕ). m * x) (sym (pow-add 2 (e - 1) (low f)) ∙ ap (λ (x : ℕ). 2 ^ x) (shape f e h))
  where
    shape : (f : Format) (e : ℕ) → (e ≡ 0 → ⊥) → e - 1 + low f ≡ prec f + (e + (base f - 1))
    shape binary32 e h = omega arith
    shape binary64 e h = omega arith

-- ---- the pattern of -0, and the others with the sign set: below zero, or -∞
top_fields : (f : Format) → (field f (top f) ≡ 0) × (digits f (top f) ≡ 0)
top_fields binary32 = (refl, refl)
top_fields binary64 = (refl, refl)

only_top : (f : Format) (b : ℕ) → b < 2 * top f → top f ≤ b → field f b ≡ 0 → digits f b ≡ 0 → b ≡ top f
only_top binary32 b h l e t = omega arith
only_top binary64 b h l e t = omega arith

-- ---- the cases
module _ (f : Format) (x : Float) (F : T (fits f x)) where
  abbrev b : ℕ
  b = to_bits f x

  abbrev e : ℕ
  e = field f b

  abbrev t : ℕ
  t = digits f b

  -- the fields stand for x
  at_field : (s : Bool) (k : ℕ) → leb (top f) b ≡ s → e ≡ k → of_fields f s k t ≡ x
  at_field s k l h = ap (λ (j : ℕ). of_fields f s j t) (sym h) ∙ sym (of_fields_lem f s b l) ∙ of_bits-to_bits f x F

  plus : b < top f → leb (top f) b ≡ false
  plus = lt-leb (top f) b

  minus : top f ≤ b → leb (top f) b ≡ true
  minus = le-leb (top f) b

  under : (e ≡ ones f → ⊥) → e < ones f
  under = lt_of_le-ne (le_of_suc-le-suc (mod-lt _ (zero-lt-suc (ones f))))

  pub case_zero : e ≡ 0 → t ≡ 0 → x ≡ sqrt_of f x
  case_zero h k =
      let s = leb (top f) b in
      subst (λ (y : Float). y ≡ sqrt_of f y) (ap (λ (t : ℕ). of_fields f s 0 t) (sym k) ∙ at_field s 0 refl h) (own_zero f s)

  -- m and d are what the value comes to with its leading digit in place
  pub case_sub : (m d : ℕ) → hid f ≤ m → m < 2 ^ prec f → d < ones f + (base f - 1) → t * 2 ^ low f ≡ m * 2 ^ (prec f + d) → e ≡ 0 → (t ≡ 0 → ⊥) → b < top f → of_bits f (root_bits f m d) ≡ sqrt_of f x
  case_sub m d lo hi few v h k l = root_result f m d lo hi few x t (rw (at_field false 0 (plus l) h) at (subnormal f false t)) (pos_of_ne-zero k) v

  case_sub_below : e ≡ 0 → (t ≡ 0 → ⊥) → top f ≤ b → div f (of_bits f 0) (of_bits f 0) ≡ sqrt_of f x
  case_sub_below h k l = no_number f ∙ sym (below_zero f x t (rw (at_field true 0 (minus l) h) at (subnormal f true t)) (pos_of_ne-zero k))

  some : (j : ℕ) → 0 < (hid f + t) * 2 ^ j
  some j = mul-pos (lt_of_lt_of_le (pow_pos (prec f - 1)) (le-add_right (hid f) t)) (pow_pos j)

  pub case_normal : (e ≡ 0 → ⊥) → (e ≡ ones f → ⊥) → b < top f → of_bits f (root_bits f (hid f + t) (e + (base f - 1))) ≡ sqrt_of f x
  case_normal h k l =
      root_result f (hid f + t) (e + (base f - 1)) (le-add_right (hid f) t) (with_lead f t (digits_lt f b)) (omega (arith, under k)) x ((hid f + t) * 2 ^ (e - 1))
      (rw (at_field false e (plus l) refl) at (normal f false e t h (under k))) (some (e - 1)) (normal_value f (hid f + t) e h)

  case_below : (e ≡ 0 → ⊥) → (e ≡ ones f → ⊥) → top f ≤ b → div f (of_bits f 0) (of_bits f 0) ≡ sqrt_of f x
  case_below h k l = no_number f ∙ sym (below_zero f x ((hid f + t) * 2 ^ (e - 1)) (rw (at_field true e (minus l) refl) at (normal f true e t h (under k))) (some (e - 1)))

  pub case_inf : e ≡ ones f → b < top f → ne x x ≡ false → x ≡ sqrt_of f x
  case_inf h l n =
      let q = at_field false (ones f) (plus l) h in
      subst (λ (y : Float). y ≡ sqrt_of f y) q (own_inf f t (rw q (not_nan x n)))

  case_inf_below : e ≡ ones f → top f ≤ b → div f (of_bits f 0) (of_bits f 0) ≡ sqrt_of f x
  case_inf_below h l = no_number f ∙ sym (rw (at_field true (ones f) (minus l) h) at (below_inf f t))

  -- the sign is set
  pub case_minus_zero : b ≡ top f → x ≡ sqrt_of f x
  case_minus_zero h = let z = top_fields f in case_zero (ap (field f) h ∙ z.0) (ap (digits f) h ∙ z.1)

  pub case_minus : top f ≤ b → (b ≡ top f → ⊥) → div f (of_bits f 0) (of_bits f 0) ≡ sqrt_of f x
  case_minus l n = at_zero (eqb e 0) refl
    where
      at_inf : (e ≡ 0 → ⊥) → (z : Bool) → eqb e (ones f) ≡ z → div f (of_bits f 0) (of_bits f 0) ≡ sqrt_of f x
      at_inf g true q = case_inf_below (eqb-true e (ones f) q) l
      at_inf g false q = case_below g (eqb-false e (ones f) q) l

      at_zero : (z : Bool) → eqb e 0 ≡ z → div f (of_bits f 0) (of_bits f 0) ≡ sqrt_of f x
      at_zero true q = let h = eqb-true e 0 q in case_sub_below h (λ k. n (only_top f b (to_bits-lt f x F) l h k)) l
      at_zero false q = at_inf (eqb-false e 0 q) (eqb e (ones f)) refl
