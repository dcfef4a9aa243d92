-- Row after row of the upper triangle laid down as a column: what lies above the diagonal in the rows that are laid down is +0, and below it stands what lay above. Assumes nothing.
use mathlib.Core.Path.{◌≡◌, sym, subst, ◌∙◌}
use mathlib.Core.Bool.{cond}
use mathlib.Core.List.{List}
use Prim.Native.Nat.{ℕ, ◌+◌, ◌*◌, ◌<◌, ◌≤◌}
use native.Mathlib.Decide.{ℕ_discrete, dec_lt}
use native.Mathlib.Omega.{arith}
use borrow.Author.Tests.{lt-ltb, le-ltb}
use lib.Dec.{ltb}
use lib.ListN.{length}
use lib.Ieee.{Float}
use Rattle.numbers.specs.Sums.{plus0}
use Rattle.grids.specs.Grid.{grid, cell}
use Rattle.grids.proofs.Grids.{grid_ext, grid_self}
use Rattle.grids.proofs.Steps.{regrid}
use Rattle.factors.specs.Decomposition.{lower}
use Rattle.upper_rows.specs.Rows.{laid}
use Rattle.upper_rows.proofs.LaidRow.{laid_right, laid_down, laid_above, laid-below, laid_early, laid_local}

-- rows 0 to j − 1 are laid down
abbrev pub turned : ℕ → (ℕ → ℕ → Float) → ℕ → ℕ → Float
turned j e r c = cond (ltb r c) (cond (ltb r j) plus0 (e r c)) (cond (ltb c j) (e c r) (e r c))

module _ (j : ℕ) (e : ℕ → ℕ → Float) (r c : ℕ) where
  -- above the diagonal, laid down
  over_done : r < c → r < j → turned j e r c ≡ plus0
  over_done h k = simp (lt-ltb r c h, lt-ltb r j k)

  -- above the diagonal, still to be laid down
  over_left : r < c → j ≤ r → turned j e r c ≡ e r c
  over_left h k = simp (lt-ltb r c h, le-ltb r j k)

  -- below it, filled
  under_done : c ≤ r → c < j → turned j e r c ≡ e c r
  under_done h k = simp (le-ltb r c h, lt-ltb c j k)

  -- below it, still to be filled
  under_left : c ≤ r → j ≤ c → turned j e r c ≡ e r c
  under_left h k = simp (le-ltb r c h, le-ltb c j k)

-- one row more is laid down: above the diagonal ..
over_more : (j : ℕ) (e : ℕ → ℕ → Float) (r c : ℕ) → r < c → laid (turned j e) j r c ≡ turned (j + 1) e r c
over_more j e r c h =
    elim (ℕ_discrete r j) [
      | yes p ↦
          subst (λ (x : ℕ). laid (turned j e) j x c ≡ turned (j + 1) e x c) (sym p)
          (laid_right (turned j e) j c (omega arith) ∙ sym (over_done (j + 1) e j c (omega arith) (omega arith)))
      | no p ↦
          laid_above (turned j e) j r c p (omega arith)
          ∙ elim (dec_lt r j) [
            | yes k ↦ over_done j e r c h k ∙ sym (over_done (j + 1) e r c h (omega arith))
            | no k ↦ over_left j e r c h (omega arith) ∙ sym (over_left (j + 1) e r c h (omega arith))
          ]
    ]

-- .. and from it down
under_more : (j : ℕ) (e : ℕ → ℕ → Float) (r c : ℕ) → c ≤ r → laid (turned j e) j r c ≡ turned (j + 1) e r c
under_more j e r c h =
    elim (ℕ_discrete c j) [
      | yes p ↦
          subst (λ (x : ℕ). laid (turned j e) j r x ≡ turned (j + 1) e r x) (sym p)
          (elim (dec_lt j r) [
            | yes k ↦ laid_down (turned j e) j r k ∙ over_left j e j r k (omega arith) ∙ sym (under_done (j + 1) e r j (omega arith) (omega arith))
            | no k ↦
                let here : r ≡ j = omega arith in
                laid_early (turned j e) j r j (omega arith) (omega arith) ∙ under_left j e r j (omega arith) (omega arith)
                ∙ subst (λ (x : ℕ). e x j ≡ turned (j + 1) e x j) (sym here) (sym (under_done (j + 1) e j j (omega arith) (omega arith)))
          ])
      | no p ↦
          laid-below (turned j e) j r c p h
          ∙ elim (dec_lt c j) [
            | yes k ↦ under_done j e r c h k ∙ sym (under_done (j + 1) e r c h (omega arith))
            | no k ↦ under_left j e r c h (omega arith) ∙ sym (under_left (j + 1) e r c h (omega arith))
          ]
    ]

module _ (n : ℕ) (l : List Float) where
  -- before the first turn none is
  pub turned_start : l ≡ grid n n (turned 0 (cell n l)) l
  turned_start =
      sym (grid_self n n l)
      ∙ grid_ext n n _ _ l (λ r c hr hc.
      sym (elim (dec_lt r c) [
        | yes h ↦ over_left 0 (cell n l) r c h (omega arith)
        | no h ↦ under_left 0 (cell n l) r c (omega arith) (omega arith)
      ]))

  -- a turn lays row j down
  pub turned_more :
      (z z' : List Float) (j : ℕ) → j < n → n * n ≤ length l → z ≡ grid n n (turned j (cell n l)) l → z' ≡ grid n n (laid (cell n z) j) z
      → z' ≡ grid n n (turned (j + 1) (cell n l)) l
  turned_more z z' j hj fits q p =
      p ∙ regrid n (λ g. laid g j) (turned j (cell n l)) l z fits (laid_local n j hj) q
      ∙ grid_ext n n _ _ l (λ r c hr hc.
      elim (dec_lt r c) [ yes h ↦ over_more j (cell n l) r c h | no h ↦ under_more j (cell n l) r c (omega arith) ])

  -- after the last row the upper triangle lies below the diagonal
  pub turned_end : (z : List Float) (j : ℕ) → j ≡ n → z ≡ grid n n (turned j (cell n l)) l → z ≡ grid n n (lower (λ r c. cell n l c r)) l
  turned_end z j e q =
      (rw e at q)
      ∙ grid_ext n n _ _ l (λ r c hr hc.
      elim (dec_lt r c) [
        | yes h ↦ over_done n (cell n l) r c h hr ∙ sym (simp (lt-ltb r c h))
        | no h ↦ under_done n (cell n l) r c (omega arith) hc ∙ sym (simp (le-ltb r c (omega arith)))
      ])
