-- The largest number of a format: no finite value of it lies above. A value of p digits or fewer with zeros behind them, below 2^(emax + 1), is at most p ones at the highest place. Assumes nothing.
use mathlib.Core.Path.{◌≡◌, refl, sym, ap, ◌∙◌}
use mathlib.Core.Bool.{false}
use Prim.Native.Nat.{ℕ, zero, suc, ◌+◌, ◌-◌, ◌*◌, ◌^◌, ◌≤◌, ◌<◌, zero-le}
use native.Mathlib.Nat.{le_trans, le_of_eq, le_of_lt, lt_of_lt_of_le, lt_of_le_of_lt, zero-lt-suc, zero-mul, mul-one, mul_assoc, mul-le-mul, mul-le-mul_right, lt_of_mul-lt-mul_right}
use native.Mathlib.Decide.{dec_lt}
use native.Mathlib.Omega.{arith}
use lib.IntN.{ℤ, pos, negsuc}
use lib.Dec.{T}
use lib.Pow.{pow-add, pow_pos, pow_mono}
use lib.Ieee.{Float, fin, Format, prec, emax, up, down, le, fits}
use lib.Ieee.Digits.{back}
use lib.Ieee.Fits.{reach, down_pos}
use lib.Ieee.Order.{le_of_values}
use Rattle.numbers.proofs.Exists.{held}

-- 2^prec − 1 at the highest place that a format has
abbrev pub largest : Format → Float
largest f = fin false (2 ^ prec f - 1) (pos (suc (emax f) - prec f))

-- below b is at most b − 1
less : (a b : ℕ) → a < b → a ≤ b - 1
less a b h = omega arith

-- m of at most p digits with k zeros behind it, below 2^E, is at most p ones with E − p zeros behind them
ones_above : (p E m k : ℕ) → p ≤ E → m < 2 ^ p → m * 2 ^ k < 2 ^ E → m * 2 ^ k ≤ (2 ^ p - 1) * 2 ^ (E - p)
ones_above p E m k l h t =
    let z = E - p in
    elim (dec_lt z k) [
      | yes q ↦
          let d = k - z in
          let parts : m * 2 ^ k ≡ m * 2 ^ d * 2 ^ z =
          ap (λ (n : ℕ). m * 2 ^ n) (sym (back k z (le_of_lt q))) ∙ ap (λ (n : ℕ). m * n) (pow-add 2 d z) ∙ sym (mul_assoc m (2 ^ d) (2 ^ z)) in
          let short : m * 2 ^ d < 2 ^ p =
          lt_of_mul-lt-mul_right (2 ^ z) (lt_of_le_of_lt (le_of_eq (sym parts)) (lt_of_lt_of_le t (le_of_eq (ap (λ (n : ℕ). 2 ^ n) (whole p E l) ∙ pow-add 2 p z)))) in
          le_trans (le_of_eq parts) (mul-le-mul_right (2 ^ z) (less (m * 2 ^ d) (2 ^ p) short))
      | no q ↦ mul-le-mul (less m (2 ^ p) h) (pow_mono (omega arith))
    ]
  where
    whole : (p E : ℕ) → p ≤ E → E ≡ p + (E - p)
    whole p E l = omega arith

-- a finite value of the format, not below zero, is at most that
pub at_most_largest : (f : Format) (m : ℕ) (e : ℤ) → T (fits f (fin false m e)) → T (le (fin false m e) (largest f))
at_most_largest f zero e t =
    le_of_values (fin false 0 e) (largest f) (0 * up e) (down e) ((2 ^ prec f - 1) * 2 ^ (suc (emax f) - prec f)) 1 (down_pos e) (zero-lt-suc 0) (refl, refl) (refl, refl)
    (le_trans (le_of_eq (ap (λ (n : ℕ). n * 1) (zero-mul (up e)))) zero-le)
at_most_largest f (suc m) (pos k) t =
    let h = held f false m (pos k) t in
    le_of_values (fin false (suc m) (pos k)) (largest f) (suc m * 2 ^ k) 1 ((2 ^ prec f - 1) * 2 ^ (suc (emax f) - prec f)) 1 (zero-lt-suc 0) (zero-lt-suc 0) (refl, refl) (refl, refl)
    (mul-le-mul_right 1 (ones_above (prec f) (suc (emax f)) (suc m) k (reach f) h.short (lt_of_lt_of_le h.small (le_of_eq (mul-one (2 ^ suc (emax f)))))))
at_most_largest f (suc m) (negsuc k) t =
    le_of_values (fin false (suc m) (negsuc k)) (largest f) (suc m * 1) (2 ^ suc k) ((2 ^ prec f - 1) * 2 ^ (suc (emax f) - prec f)) 1 (pow_pos (suc k)) (zero-lt-suc 0) (refl, refl) (refl, refl)
    (mul-le-mul (mul-le-mul (less (suc m) (2 ^ prec f) (held f false m (negsuc k) t).short) (pow_pos (suc (emax f) - prec f))) (pow_pos (suc k)))
