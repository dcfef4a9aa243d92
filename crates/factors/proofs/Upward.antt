-- The first pass, a column at a time: which cells it writes, and that its sums go by their terms. Assumes nothing.
use mathlib.Core.Path.{◌≡◌, refl, ap}
use Prim.Native.Nat.{ℕ, zero, suc, ◌<◌, ◌≤◌}
use native.Mathlib.Omega.{arith}
use borrow.Author.Tests.{le-leb, eq-eqb, ne_eqb}
use lib.Ieee.{Float, Format}
use Rattle.numbers.specs.Sums.{sum_from, sum_of_first}
use Rattle.numbers.proofs.Sums.{sum_same}
use Rattle.factors.specs.Inverse.{plus_sum, solved_at, solve_column}

-- ---- sums go by their terms

-- two such sums are equal where their starts and their terms are
pub plus_ext : (f : Format) (s s' : Float) (t u : ℕ → Float) (n : ℕ) → s ≡ s' → ((k : ℕ) → k < n → t k ≡ u k) → plus_sum f s t n ≡ plus_sum f s' u n
unfolding plus_sum
plus_ext f s s' t u zero q h = q
plus_ext f s s' t u (suc n) q h =
    let first : sum_of_first f t (suc n) ≡ sum_from f (u 0) (λ k. t (suc k)) n = ap (λ (x : Float). sum_from f x (λ k. t (suc k)) n) (h 0 (omega arith)) in
    let rest : sum_from f (u 0) (λ k. t (suc k)) n ≡ sum_of_first f u (suc n) = sum_same f (u 0) (λ k. t (suc k)) (λ k. u (suc k)) n (λ k l. h (suc k) (omega arith)) in
    cc

-- ---- the column

module _ (f : Format) (L e : ℕ → ℕ → Float) (i : ℕ) where
  -- another column is as it was
  pub solve_off : (r c : ℕ) → (c ≡ i → ⊥) → solve_column f L e i r c ≡ e r c
  solve_off r c h = simp (ne_eqb c i h)

  -- down to the diagonal stands what the pass works out
  pub solve_at : (r : ℕ) → r ≤ i → solve_column f L e i r i ≡ solved_at f L e i r
  solve_at r h = simp (eq-eqb i i refl, le-leb r i h)
