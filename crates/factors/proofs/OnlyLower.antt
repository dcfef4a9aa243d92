-- The inverse by its entries: it equals its transpose, and goes by the diagonal and the lower triangle of L alone.
-- Each column of the second pass stores a row and a column alike, so the cells stored so far are symmetric; both passes read only what they have written, and L on and below its diagonal. Assumes nothing.
use mathlib.Core.Path.{◌≡◌, refl, sym, subst, ◌∙◌}
use mathlib.Core.Logic.{◌⊎◌, inl, inr, ⊎_elim}
use Prim.Native.Nat.{ℕ, zero, suc, ◌+◌, ◌-◌, ◌<◌, ◌≤◌}
use native.Mathlib.Decide.{ℕ_discrete, dec_lt, dec_le}
use native.Mathlib.Omega.{arith}
use lib.Ieee.{Float, Format, mul, neg}
use Rattle.factors.specs.Inverse.{SameLower, unit_at, solve_column, solved, back_at, cross, back, inverse}
use Rattle.factors.proofs.Upward.{plus_ext, solve_off, solve_at}
use Rattle.factors.proofs.Crosses.{cross_up, cross-left, cross_off, cross_low, cross_right}

-- ---- the result equals its transpose

-- after d columns the cells that they stored equal their transposes
back_sym :
    (f : Format) (n : ℕ) (L e : ℕ → ℕ → Float) (d : ℕ) → d ≤ n → (r c : ℕ) → r < n → c < n → (n ≤ r + d) ⊎ (n ≤ c + d)
    → back f n L e d r c ≡ back f n L e d c r
unfolding back
back_sym f n L e zero hd r c hr hc w = ⊎_elim (λ h. absurd (omega arith)) (λ h. absurd (omega arith)) w
back_sym f n L e (suc d) hd r c hr hc w =
    let E = back f n L e d in
    let i = n - suc d in
    let g = back_at f n L E i in
    let X = cross E i g (i + 1) in
    let before = back_sym f n L e d (omega arith) in
    elim (ℕ_discrete r i) [
      | yes p ↦
          subst (λ (x : ℕ). X x c ≡ X c x) (sym p)
          (elim (ℕ_discrete c i) [
            | yes q ↦ subst (λ (y : ℕ). X i y ≡ X y i) (sym q) refl
            | no q ↦ elim (dec_lt c (i + 1)) [
              | yes h ↦ cross-left E i g (i + 1) c q h ∙ sym (cross_up E i g (i + 1) c h)
              | no h ↦ cross_right E i g (i + 1) c (omega arith) ∙ before i c (omega arith) hc (inr (omega arith)) ∙ sym (cross_low E i g (i + 1) c (omega arith) q)
            ]
          ])
      | no p ↦ elim (ℕ_discrete c i) [
        | yes q ↦
            subst (λ (y : ℕ). X r y ≡ X y r) (sym q)
            (elim (dec_lt r (i + 1)) [
              | yes h ↦ cross_up E i g (i + 1) r h ∙ sym (cross-left E i g (i + 1) r p h)
              | no h ↦ cross_low E i g (i + 1) r (omega arith) p ∙ before r i hr (omega arith) (inl (omega arith)) ∙ sym (cross_right E i g (i + 1) r (omega arith))
            ])
        | no q ↦
            cross_off E i g (i + 1) r c q p
            ∙ before r c hr hc (⊎_elim (λ h. inl (omega arith)) (λ h. inr (omega arith)) w)
            ∙ sym (cross_off E i g (i + 1) c r p q)
      ]
    ]

-- after all of them every cell does
pub inverse_sym : (f : Format) (n : ℕ) (L e : ℕ → ℕ → Float) (r c : ℕ) → r < n → c < n → inverse f n L e r c ≡ inverse f n L e c r
inverse_sym f n L e r c hr hc = back_sym f n L (solved f L e n) n (omega arith) r c hr hc (inl (omega arith))

-- ---- only the diagonal and the lower triangle of L matter, and nothing of what the destination held

module _ (f : Format) (n : ℕ) (L M : ℕ → ℕ → Float) (same : SameLower n L M) where
  -- the first pass, on and above the diagonal, in the columns done
  solved_upper : (e g : ℕ → ℕ → Float) (i : ℕ) → i ≤ n → (r c : ℕ) → r ≤ c → c < i → solved f L e i r c ≡ solved f M g i r c
  unfolding solved
  solved_upper e g zero hi r c h k = absurd (omega arith)
  solved_upper e g (suc i) hi r c h k =
      let S = solved f L e i in
      let T = solved f M g i in
      let before = solved_upper e g i (omega arith) in
      elim (ℕ_discrete c i) [
        | yes q ↦
            subst (λ (y : ℕ). solve_column f L S i r y ≡ solve_column f M T i r y) (sym q)
            (solve_at f L S i r (omega arith)
            ∙ cc (
              plus_ext f (unit_at i r) (unit_at i r) (λ j. mul f (neg (L i (r + j))) (S r (r + j))) (λ j. mul f (neg (M i (r + j))) (T r (r + j))) (i - r) refl (λ j jh.
                  cc (same i (r + j) (omega arith) (omega arith), before r (r + j) (omega arith) (omega arith))),
              same i i (omega arith) (omega arith),
            )
            ∙ sym (solve_at f M T i r (omega arith)))
        | no q ↦ solve_off f L S i r c q ∙ before r c h (omega arith) ∙ sym (solve_off f M T i r c q)
      ]

  -- the second pass, on and above the diagonal
  back_upper :
      (e g : ℕ → ℕ → Float) → ((r c : ℕ) → r ≤ c → c < n → e r c ≡ g r c) → (d : ℕ) → d ≤ n → (r c : ℕ) → r ≤ c → c < n
      → back f n L e d r c ≡ back f n M g d r c
  unfolding back
  back_upper e g start zero hd r c h k = start r c h k
  back_upper e g start (suc d) hd r c h k =
      let S = back f n L e d in
      let T = back f n M g d in
      let i = n - suc d in
      let u = back_at f n L S i in
      let v = back_at f n M T i in
      let before = back_upper e g start d (omega arith) in
      elim (ℕ_discrete c i) [
        | yes q ↦
            subst (λ (y : ℕ). cross S i u (i + 1) r y ≡ cross T i v (i + 1) r y) (sym q)
            (cross_up S i u (i + 1) r (omega arith)
            ∙ cc (
              plus_ext f (S r i) (T r i) (λ j. mul f (neg (L (i + 1 + j) i)) (S r (i + 1 + j))) (λ j. mul f (neg (M (i + 1 + j) i)) (T r (i + 1 + j))) (n - (i + 1))
                  (before r i (omega arith) (omega arith)) (λ j jh.
                  cc (same (i + 1 + j) i (omega arith) (omega arith), before r (i + 1 + j) (omega arith) (omega arith))),
              same i i (omega arith) (omega arith),
            )
            ∙ sym (cross_up T i v (i + 1) r (omega arith)))
        | no q ↦ elim (ℕ_discrete r i) [
          | yes p ↦
              subst (λ (x : ℕ). cross S i u (i + 1) x c ≡ cross T i v (i + 1) x c) (sym p)
              (cross_right S i u (i + 1) c (omega arith) ∙ before i c (omega arith) k ∙ sym (cross_right T i v (i + 1) c (omega arith)))
          | no p ↦ cross_off S i u (i + 1) r c q p ∙ before r c h k ∙ sym (cross_off T i v (i + 1) r c q p)
        ]
      ]

  -- the second pass, everywhere: below the diagonal by the transpose
  pub back-lower :
      (e g : ℕ → ℕ → Float) → ((r c : ℕ) → r ≤ c → c < n → e r c ≡ g r c) → (r c : ℕ) → r < n → c < n
      → back f n L e n r c ≡ back f n M g n r c
  back-lower e g start r c hr hc =
      elim (dec_le r c) [
        | yes h ↦ back_upper e g start n (omega arith) r c h hc
        | no h ↦
            back_sym f n L e n (omega arith) r c hr hc (inl (omega arith))
            ∙ back_upper e g start n (omega arith) c r (omega arith) hr
            ∙ sym (back_sym f n M g n (omega arith) r c hr hc (inl (omega arith)))
      ]

  -- both passes
  pub inverse-lower : (e g : ℕ → ℕ → Float) (r c : ℕ) → r < n → c < n → inverse f n L e r c ≡ inverse f n M g r c
  inverse-lower e g r c hr hc = back-lower _ _ (λ x y a b. solved_upper e g n (omega arith) x y a b) r c hr hc
