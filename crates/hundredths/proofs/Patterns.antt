-- What the fields of a bit pattern stand for, in the three ranges of the exponent's field that `in_hundredths` tells apart. Assumes nothing.
use mathlib.Core.Path.{◌≡◌, refl, sym, ap, ◌∙◌, subst}
use mathlib.Core.Logic.{⊎_elim}
use mathlib.Core.Bool.{Bool, true, false, cond}
use Prim.Native.Nat.{ℕ, zero, suc, ◌+◌, ◌-◌, ◌*◌, ◌/◌, ◌%◌, ◌^◌, ◌≤◌, ◌<◌}
use native.Mathlib.Nat.{mul-one, eq-or-lt_of_le, lt_irrefl, le_trans, lt_of_lt_of_le, lt_of_le_of_lt, one-mul, mul_assoc, mul-le-mul, mul-le-mul_left, mul-le-mul_right}
use native.Mathlib.Omega.{arith}
use lib.Dec.{T, leb, eqb, lit≤, lit<}
use lib.Pow.{pow-add, pow_pos, pow_mono, shl_lt, shl_exact}
use lib.Ieee.{Float, nan, inf, binary32, top, of_fields, to_bits, ne, fits}
use lib.Ieee.Bits.{of_bits-to_bits}
use lib.Ieee.Compare.{differs_from_itself}
use lib.Ieee.Exact.{HasValue}
use borrow.Author.Tests.{lt-leb, leb-false}
use Rattle.data_type.proofs.Patterns.{field, of_fields_lem, at_ones, subnormal, normal}
use Rattle.hundredths.specs.Hundredths.{shown, Nearest}
use Rattle.hundredths.proofs.Fractions.{shown_at, shown_past, shown-below, nearest_at, near_over, near_under}

-- ---- the test `v != v`
pub nan_beyond : (v : Float) → ne v v ≡ true → shown v ≡ false
nan_beyond v h = rw (differs_from_itself v (subst T (sym h) tt))

-- ---- the value of the fields x and t: a field of 0 has no leading digit
abbrev digits : ℕ → ℕ → ℕ
digits zero t = t
digits (suc x) t = 8388608 + t

finite : (s : Bool) (x t : ℕ) → x < 255 → HasValue (of_fields binary32 s x t) s (digits x t * 2 ^ (x - 1)) (2 ^ 149)
finite s zero t h = rw (mul-one t) (subnormal binary32 s t)
finite s (suc x) t h = normal binary32 s (suc x) t (λ e. omega arith) h

-- a field of 255 is an infinity or a NaN
beyond : (s : Bool) (x t : ℕ) → x ≤ 255 → (x < 255 → shown (of_fields binary32 s x t) ≡ false) → shown (of_fields binary32 s x t) ≡ false
beyond s x t h k = ⊎_elim (λ (e : x ≡ 255). rw (e, at_ones binary32 s t) (ends (eqb t 0))) (λ (l : x < 255). k l) (eq-or-lt_of_le h)
  where
    ends : (b : Bool) → shown (cond b (inf s) nan) ≡ false
    ends true = refl
    ends false = refl

digits_at : (x t : ℕ) → 0 < x → digits x t ≡ 8388608 + t
digits_at zero t h = absurd (lt_irrefl 0 h)
digits_at (suc x) t h = refl

digits_most : (x t : ℕ) → t < 8388608 → digits x t ≤ 16777216
digits_most zero t h = omega arith
digits_most (suc x) t h = omega arith

nothing : (c n : ℕ) → (2 * 0 - 1) * c ≤ n
nothing c n = omega arith

-- ---- the code's 1 << k
pub record Shifted (k d : ℕ) : Type 0 where
  pub is : d ≡ 2 ^ k
  pub some : 0 < d
  pub most : d ≤ 17179869184

pub shifted : (k : ℕ) → k ≤ 34 → Shifted k ((1 * 2 ^ k) % 18446744073709551616)
shifted k h =
    let e : (1 * 2 ^ k) % 18446744073709551616 ≡ 2 ^ k = shl_exact 1 k 64 (lit< tt) (omega arith) ∙ one-mul (2 ^ k) in
    record { is = e; some = rw e (pow_pos k); most = rw e (pow_mono {j = 34} h) }

-- ---- the ranges, for a value v with the pattern b, whose field with the sign is e and whose digits are t
module _ (v : Float) (F : T (fits binary32 v)) where
  abbrev b : ℕ
  b = to_bits binary32 v

  abbrev e : ℕ
  e = b / 8388608

  abbrev t : ℕ
  t = b % 8388608

  t_lt : t < 8388608
  t_lt = omega arith

  at_fields : (s : Bool) → leb (top binary32) b ≡ s → of_fields binary32 s (field binary32 b) t ≡ v
  at_fields s l = sym (of_fields_lem binary32 s b l) ∙ of_bits-to_bits binary32 v F

  -- with the sign clear, e is the exponent's field
  plus : e < 256 → of_fields binary32 false e t ≡ v
  plus h =
      let clear : e ≡ field binary32 b = omega arith in
      ap (λ (x : ℕ). of_fields binary32 false x t) clear ∙ at_fields false (lt-leb (top binary32) b (omega arith))

  value : e < 255 → HasValue v false (digits e t * 2 ^ (e - 1)) (2 ^ 149)
  value h = rw (plus (omega arith)) at (finite false e t h)

  pub large : 143 < e → shown v ≡ false
  large h = go (leb (top binary32) b) refl
    where
      go : (s : Bool) → leb (top binary32) b ≡ s → shown v ≡ false
      go true l =
          let x = field binary32 b in
          rw (at_fields true l) at (beyond true x t (omega arith) (λ (k : x < 255). shown-below (of_fields binary32 true x t) _ _ (finite true x t k)))
      go false l =
          let under : e < 256 = omega (arith, leb-false (top binary32) b l) in
          rw (plus under) at (beyond false e t (omega arith) (λ (k : e < 255).
          shown_past (of_fields binary32 false e t) _ _ (pow_pos 149) (finite false e t k)
          (rw (digits_at e t (omega arith)) (le_trans (lit≤ tt) (mul-le-mul {n₁ = 8388608} {m₁ = 2 ^ 143} (omega arith) (pow_mono {i = 143} (omega arith)))))))

  pub small : e < 116 → (shown v ≡ true) × Nearest v 0
  small h =
      let a = digits e t * 2 ^ (e - 1) in
      let few : a ≤ 16777216 * 2 ^ 115 = mul-le-mul (digits_most e t t_lt) (pow_mono {j = 115} (omega arith)) in
      let w = value (omega arith) in (
        shown_at v a (2 ^ 149) w (lt_of_le_of_lt few (lit< tt)),
        nearest_at v a (2 ^ 149) 0 (pow_pos 149) w (nothing (2 ^ 149) (200 * a)) (le_trans (mul-le-mul_left 200 few) (lit≤ tt)),
      )

  pub middle : 116 ≤ e → e ≤ 143 → (shown v ≡ true) × Nearest v (((8388608 + t) * 200 + 2 ^ (150 - e)) / (2 ^ (150 - e) * 2))
  middle h k =
      let m = 8388608 + t in
      let d = 2 ^ (150 - e) in
      let u = 2 ^ (e - 1) in
      let q = (m * 200 + d) / (d * 2) in
      let w : HasValue v false (m * u) (2 ^ 149) = rw (digits_at e t (omega arith)) at (value (omega arith)) in
      let unit : d * u ≡ 2 ^ 149 = sym (pow-add 2 (150 - e) (e - 1)) ∙ ap (λ (n : ℕ). 2 ^ n) (exponents e h k) in (
        shown_at v (m * u) (2 ^ 149) w (lt_of_lt_of_le (shl_lt {a = m} 24 (e - 1) (omega arith)) (le_trans (pow_mono {j = 166} (omega arith)) (lit≤ tt))),
        nearest_at v (m * u) (2 ^ 149) q (pow_pos 149) w
            (rw (← unit, ← mul_assoc (2 * q - 1) d u, ← mul_assoc 200 m u) (mul-le-mul_right u (near_over m d)))
            (rw (← unit, ← mul_assoc (2 * q + 1) d u, ← mul_assoc 200 m u) (mul-le-mul_right u (near_under m d (pow_pos (150 - e))))),
      )
    where
      exponents : (e : ℕ) → 116 ≤ e → e ≤ 143 → 150 - e + (e - 1) ≡ 149
      exponents e h k = omega arith
