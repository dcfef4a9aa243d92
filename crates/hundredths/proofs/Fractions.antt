-- The hundredths nearest to a fraction, and what they are for a float that equals it. Assumes nothing.
use mathlib.Core.Path.{◌≡◌, refl, sym, ap, ap₂, ◌∙◌}
use mathlib.Core.Bool.{true, false, true≢false, false≢true}
use Prim.Native.Nat.{ℕ, zero, suc, ◌+◌, ◌-◌, ◌*◌, ◌/◌, ◌≤◌, ◌<◌}
use native.Mathlib.Nat.{le_of_mul-le-mul_right, lt_of_not-le, mul-le-mul_right, mul_assoc, mul_right_comm, add-mul, one-mul, suc-mul, div-add-mod', mod-lt}
use native.Mathlib.Omega.{arith}
use lib.Ieee.{Float, nan, inf, fin, up, down}
use lib.Ieee.Fits.{down_pos}
use lib.Ieee.Exact.{HasValue}
use borrow.Author.Tests.{lt-ltb, le-ltb}
use Rattle.hundredths.specs.Hundredths.{shown, Nearest}

-- ---- x / d and a / c are the same number: a bound of one is a bound of the other
module _ (x d a c : ℕ) (some : 0 < c) (same : x * c ≡ a * d) where
  product : (k : ℕ) → k * x * c ≡ k * a * d
  product k = mul_assoc k x c ∙ ap (λ (y : ℕ). k * y) same ∙ sym (mul_assoc k a d)

  pub at_most : (j k : ℕ) → k * a ≤ j * c → k * x ≤ j * d
  at_most j k h = le_of_mul-le-mul_right (rw (product k, mul_right_comm j d c) (mul-le-mul_right d h)) some

  pub at_least : (j k : ℕ) → j * c ≤ k * a → j * d ≤ k * x
  at_least j k h = le_of_mul-le-mul_right (rw (product k, mul_right_comm j d c) (mul-le-mul_right d h)) some

-- ---- a float that is a / c
pub shown_at : (v : Float) (a c : ℕ) → HasValue v false a c → a < 131072 * c → shown v ≡ true
shown_at nan a c h l = absurd h
shown_at (inf s) a c h l = absurd h
shown_at (fin true m e) a c h l = absurd (true≢false h.0)
shown_at (fin false m e) a c h l =
    lt-ltb (m * up e) (131072 * down e) (lt_of_not-le (λ (k : 131072 * down e ≤ m * up e). omega (arith, at_least a c (m * up e) (down e) (down_pos e) (sym h.1) 131072 1 (omega arith))))

pub shown_past : (v : Float) (a c : ℕ) → 0 < c → HasValue v false a c → 131072 * c ≤ a → shown v ≡ false
shown_past nan a c z h l = absurd h
shown_past (inf s) a c z h l = absurd h
shown_past (fin true m e) a c z h l = absurd (true≢false h.0)
shown_past (fin false m e) a c z h l = le-ltb (m * up e) (131072 * down e) (omega (arith, at_least (m * up e) (down e) a c z h.1 131072 1 (omega arith)))

pub shown-below : (v : Float) (a c : ℕ) → HasValue v true a c → shown v ≡ false
shown-below nan a c h = absurd h
shown-below (inf s) a c h = absurd h
shown-below (fin true m e) a c h = refl
shown-below (fin false m e) a c h = absurd (false≢true h.0)

pub nearest_at : (v : Float) (a c h : ℕ) → 0 < c → HasValue v false a c → (2 * h - 1) * c ≤ 200 * a → 200 * a ≤ (2 * h + 1) * c → Nearest v h
nearest_at nan a c h z v o u = absurd v
nearest_at (inf s) a c h z v o u = absurd v
nearest_at (fin s m e) a c h z v o u =
    record { over = at_least (m * up e) (down e) a c z v.1 (2 * h - 1) 200 o; under = at_most (m * up e) (down e) a c z v.1 (2 * h + 1) 200 u }

-- ---- the quotient that the code forms, for the fraction m / d
twice : (q d : ℕ) → 2 * q * d ≡ q * (d * 2)
twice q d = ap (λ (y : ℕ). y * d) (flip q) ∙ mul_assoc q 2 d ∙ ap (λ (y : ℕ). q * y) (flip d)
  where
    flip : (n : ℕ) → 2 * n ≡ n * 2
    flip n = omega arith

odd_times : (q d : ℕ) → (2 * q + 1) * d ≡ q * (d * 2) + d
odd_times q d = add-mul (2 * q) 1 d ∙ ap₂ (λ (y w : ℕ). y + w) (twice q d) (one-mul d)

pub near_under : (m d : ℕ) → 0 < d → 200 * m ≤ (2 * ((m * 200 + d) / (d * 2)) + 1) * d
near_under m d z =
    rw (odd_times ((m * 200 + d) / (d * 2)) d) (omega (arith, div-add-mod' (m * 200 + d) (d * 2), mod-lt (m * 200 + d) {m = d * 2} (omega arith)))

over : (q d n : ℕ) → q * (d * 2) ≤ n + d → (2 * q - 1) * d ≤ n
over zero d n h = omega arith
over (suc q) d n h =
    let p : 2 * suc q - 1 ≡ 2 * q + 1 = omega arith in
    rw (p, odd_times q d) (omega (arith, suc-mul q (d * 2)))

pub near_over : (m d : ℕ) → (2 * ((m * 200 + d) / (d * 2)) - 1) * d ≤ 200 * m
near_over m d = over ((m * 200 + d) / (d * 2)) d (200 * m) (omega (arith, div-add-mod' (m * 200 + d) (d * 2)))
