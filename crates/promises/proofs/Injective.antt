-- With ones on the diagonal of each A and zeros below, the formulas take different whole numbers to different whole numbers. The last entry of A·x is the last of x,
-- and so on upward (back substitution). P goes by the same law twice, once for each side. Assumes nothing.
use mathlib.Core.Path.{◌≡◌, refl, sym, ap, ap₂, ◌∙◌}
use mathlib.Core.List.{List, [], ◌∷◌}
use mathlib.Core.Logic.{⊎_elim}
use Prim.Native.Nat.{ℕ, zero, suc, ◌+◌, ◌≤◌, ◌<◌}
use native.Mathlib.Nat.{le_step, le_refl, not-suc-le-zero, le_of_suc-le-suc, eq-or-lt_of_le}
use native.Mathlib.Decide.{dec_lt}
use native.Mathlib.Omega.{arith}
use lib.IntN.{ℤ, pos, one, neg_ℤ, ◌+ℤ◌, ◌*ℤ◌, +ℤ_comm, +ℤ-neg_ℤ_cancel, *ℤ_comm, *ℤ-one, zero-*ℤ}
use Rattle.numbers.specs.Whole.{sumℤ}
use Rattle.promises.specs.Formulas.{Column, Matrix, terms_a_x, terms_t_at, a_x, a_p, a_p_at_q, Spreading, exact_x, exact_p}
use Rattle.promises.specs.WholeNumbers.{UnitUpper, AllUnitUpper, AsOf}

-- ---- sums
cancel_right : (a b c : ℤ) → a +ℤ c ≡ b +ℤ c → a ≡ b
cancel_right a b c e = sym (+ℤ-neg_ℤ_cancel a c) ∙ ap (λ (z : ℤ). z +ℤ neg_ℤ c) e ∙ +ℤ-neg_ℤ_cancel b c

cancel_left : (a b c d : ℤ) → a ≡ b → a +ℤ c ≡ b +ℤ d → c ≡ d
cancel_left a b c d p e = cancel_right c d b (+ℤ_comm c b ∙ ap (λ (z : ℤ). z +ℤ c) (sym p) ∙ e ∙ +ℤ_comm b d)

one-times : (z : ℤ) → pos 1 *ℤ z ≡ z
unfolding one
one-times z = *ℤ_comm (pos 1) z ∙ *ℤ-one z

sum_same : (z : ℤ) (g h : ℕ → ℤ) (n : ℕ) → ((k : ℕ) → k < n → g k ≡ h k) → sumℤ z g n ≡ sumℤ z h n
unfolding sumℤ
sum_same z g h zero e = refl
sum_same z g h (suc n) e = ap₂ (λ (a b : ℤ). a +ℤ b) (sum_same z g h n (λ k l. e k (le_step l))) (e n (le_refl (suc n)))

-- two equal sums whose terms are equal but at r have equal terms there
last_term : (z : ℤ) (g h : ℕ → ℤ) (n r : ℕ) → r < n → sumℤ z g n ≡ sumℤ z h n → ((k : ℕ) → k < n → (k ≡ r → ⊥) → g k ≡ h k) → g r ≡ h r
unfolding sumℤ
last_term z g h zero r lt e same = absurd (not-suc-le-zero lt)
last_term z g h (suc n) r lt e same =
    ⊎_elim
    (λ q. ap g q ∙ cancel_left (sumℤ z g n) (sumℤ z h n) (g n) (h n) (sum_same z g h n (λ k l. same k (le_step l) (λ s. omega arith))) e ∙ sym (ap h q))
    (λ l. last_term z g h n r l (cancel_right (sumℤ z g n) (sumℤ z h n) (h n) (ap (λ (i : ℤ). sumℤ z g n +ℤ i) (sym (same n (le_refl (suc n)) (λ s. omega arith))) ∙ e)) (λ k m. same k (le_step m)))
    (eq-or-lt_of_le (le_of_suc-le-suc lt))

-- ---- one prediction
module _ (n : ℕ) (a : Matrix) (upper : UnitUpper n a) where
  back : (x y : Column) → ((r : ℕ) → r < n → a_x n a x r ≡ a_x n a y r) → (d r : ℕ) → n ≤ r + d → r < n → x r ≡ y r
  back x y e zero r far lt = absurd (omega arith)
  back x y e (suc d) r far lt =
      let here : a r r *ℤ x r ≡ a r r *ℤ y r = last_term (pos 0) (terms_a_x a x r) (terms_a_x a y r) n r lt (e r lt) (λ k lk other.
      elim (dec_lt k r) [
        | yes l ↦ rw (upper.below r k lt l) (zero-*ℤ (x k) ∙ sym (zero-*ℤ (y k)))
        | no l ↦ ap (λ (z : ℤ). a r k *ℤ z) (back x y e d k (omega arith) lk)
      ]) in
      sym (one-times (x r)) ∙ (rw (upper.diagonal r lt) at here) ∙ one-times (y r)

  x_injective : (x y : Column) → ((r : ℕ) → r < n → a_x n a x r ≡ a_x n a y r) → (r : ℕ) → r < n → x r ≡ y r
  x_injective x y e r lt = back x y e n r (omega arith) lt

  p_injective : (p p' q : Matrix) → ((r c : ℕ) → r < n → c < n → a_p_at_q n a p q r c ≡ a_p_at_q n a p' q r c) → (r c : ℕ) → r < n → c < n → p r c ≡ p' r c
  p_injective p p' q e r c lr lc =
      x_injective (λ k. p k c) (λ k. p' k c) (λ i li. x_injective (a_p n a p i) (a_p n a p' i) (λ j lj.
      sum_same (pos 0) (λ k. a j k *ℤ a_p n a p i k) (λ k. a_p n a p i k *ℤ a j k) n (λ k l. *ℤ_comm (a j k) (a_p n a p i k))
      ∙ cancel_right (sumℤ (pos 0) (terms_t_at (a_p n a p) a i j) n) (sumℤ (pos 0) (terms_t_at (a_p n a p') a i j) n) (q i j) (e i j li lj)
      ∙ sum_same (pos 0) (λ k. a_p n a p' i k *ℤ a j k) (λ k. a j k *ℤ a_p n a p' i k) n (λ k l. *ℤ_comm (a_p n a p' i k) (a j k))) c lc) r lr

-- ---- a run: where two end alike, they started alike
pub x_run : (n : ℕ) (ms : List Matrix) → AllUnitUpper n ms → (v v' : Column)
    → ((r : ℕ) → r < n → exact_x n ms v r ≡ exact_x n ms v' r) → (r : ℕ) → r < n → v r ≡ v' r
unfolding exact_x
x_run n [] u v v' e = e
x_run n (a ∷ ms) u v v' e = x_injective n a u.0 v v' (x_run n ms u.1 (a_x n a v) (a_x n a v') e)

pub p_run : (n : ℕ) (ss : List Spreading) → AllUnitUpper n (AsOf ss) → (p p' : Matrix)
    → ((r c : ℕ) → r < n → c < n → exact_p n ss p r c ≡ exact_p n ss p' r c) → (r c : ℕ) → r < n → c < n → p r c ≡ p' r c
unfolding exact_p
p_run n [] u p p' e = e
p_run n (s ∷ ss) u p p' e = p_injective n s.a u.0 p p' s.q (p_run n ss u.1 (a_p_at_q n s.a p s.q) (a_p_at_q n s.a p' s.q) e)
