-- The cases of `accepts_root`, for a root of p digits: each says what the test comes to by what the code has found so far. Assumes nothing.
use mathlib.Core.Path.{◌≡◌, sym}
use mathlib.Core.Bool.{Bool, true, false, not}
use Prim.Native.Nat.{ℕ, ◌+◌, ◌-◌, ◌*◌, ◌^◌, ◌≤◌, ◌<◌}
use native.Mathlib.Nat.{le_of_eq, le_of_lt, eq-or-lt_of_le, mul-le-mul, lt_of_le_of_lt}
use native.Mathlib.Omega.{arith}
use mathlib.Core.Logic.{⊎_elim}
use lib.Dec.{T, leb, leb→le, nleb→lt, lit<}
use lib.Pow.{pow-lt}
use Rattle.numbers.specs.Proposed.{accepts}
use Rattle.numbers.proofs.Accepted.{accepts_yes, accepts_no, near_over, near_under, near_of}

-- the square of a number of 26 binary digits fits a word
pub square_fits : {s : ℕ} → s < 67108864 → s * s < 2 ^ 64
square_fits h = lt_of_le_of_lt (mul-le-mul (le_of_lt h) (le_of_lt h)) (lit< tt)

module _ (p n s : ℕ) where
  abbrev H : ℕ
  H = 2 ^ (p - 1)

  -- one of the inequalities fails
  pub too_large : n + s ≤ s * s → false ≡ accepts p n s
  too_large h = sym (accepts_no p n s (λ r. let a = near_over p n s r in omega arith))

  pub too_small : s * s + s < n → false ≡ accepts p n s
  too_small h = sym (accepts_no p n s (λ r. let a = near_under p n s r in omega arith))

  -- both hold, and s has p digits: above the least of these nothing more is asked
  pub above_least : s * s < n + s → n ≤ s * s + s → H < s → s < 2 ^ p → true ≡ accepts p n s
  above_least o u l m = sym (accepts_yes p n s (near_of p n s (le_of_lt l) m o u (λ e. absurd (differ s H l e))))
    where
      differ : (a b : ℕ) → b < a → a ≡ b → ⊥
      differ a b h e = omega arith

  -- at the least one the square is asked
  pub at_least : 0 < p → s * s < n + s → n ≤ s * s + s → s ≡ H → leb (s * s) n ≡ accepts p n s
  at_least P o u e = go (leb (s * s) n) (leb→le (s * s) n) (nleb→lt (s * s) n)
    where
      few : s < 2 ^ p
      few = rw e (pow-lt (omega arith))

      go : (b : Bool) → (T b → s * s ≤ n) → (T (not b) → n < s * s) → b ≡ accepts p n s
      go true l g = sym (accepts_yes p n s (near_of p n s (le_of_eq (sym e)) few o u (λ q. l tt)))
      go false l g = sym (accepts_no p n s (λ r. let a : s * s ≤ n = r.edge e in let b = g tt in omega arith))

  -- s has not p digits
  pub out_of_range : (H < s → s < 2 ^ p → ⊥) → (s ≡ H → ⊥) → false ≡ accepts p n s
  out_of_range f g = sym (accepts_no p n s (λ r. ⊎_elim (λ e. g (sym e)) (λ l. f l r.most) (eq-or-lt_of_le r.least)))
