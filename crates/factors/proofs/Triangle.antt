-- The strict upper triangle, cleared a cell and a column at a time. Assumes nothing.
use mathlib.Core.Path.{◌≡◌, refl, sym, ap, subst, ◌∙◌}
use mathlib.Core.Bool.{cond}
use mathlib.Core.List.{List}
use Prim.Native.Nat.{ℕ, ◌+◌, ◌*◌, ◌<◌, ◌≤◌}
use native.Mathlib.Decide.{ℕ_discrete, dec_lt}
use native.Mathlib.Omega.{arith}
use borrow.Author.Tests.{lt-ltb, le-ltb, eq-eqb, ne_eqb}
use lib.Dec.{ltb}
use lib.ListN.{length, set}
use lib.Ieee.{Float}
use Rattle.numbers.specs.Sums.{plus0}
use Rattle.grids.specs.Grid.{grid, cell, Same}
use Rattle.grids.proofs.Grids.{grid_self, grid_ext}
use Rattle.factors.specs.Decomposition.{lower}
use Rattle.factors.specs.Steps.{clear_column}
use Rattle.grids.proofs.Steps.{up_to, regrid, up_start, up_more, up_all}

module _ (e : ℕ → ℕ → Float) (i : ℕ) where
  -- another column is as it was
  clear_off : (r c : ℕ) → (c ≡ i → ⊥) → clear_column e i r c ≡ e r c
  clear_off r c h = simp (ne_eqb c i h)

  -- so is what lies on the diagonal and below it
  clear_low : (r c : ℕ) → i ≤ r → clear_column e i r c ≡ e r c
  clear_low r c h = elim (ℕ_discrete c i) [ yes q ↦ simp (eq-eqb c i q, le-ltb r i h) | no q ↦ clear_off r c q ]

  -- above the diagonal stands +0
  clear_at : (r : ℕ) → r < i → clear_column e i r i ≡ plus0
  clear_at r h = simp (eq-eqb i i refl, lt-ltb r i h)

-- entries that agree within n by n agree after the step
clear_local : (n i : ℕ) (g h : ℕ → ℕ → Float) → Same n g h → Same n (clear_column g i) (clear_column h i)
clear_local n i g h s r c hr hc = rw (s r c hr hc)

module _ (n : ℕ) (l : List Float) (i : ℕ) (hi : i < n) (fits : n * n ≤ length l) where
  -- before the first turn no cell of the column is new
  pub clear_start : l ≡ grid n n (up_to 0 (clear_column (cell n l) i) (cell n l)) l
  clear_start = up_start n 0 _ l (λ r c h. absurd (omega arith))

  -- a turn writes the cell (j, i)
  pub clear_more :
      (z : List Float) (j : ℕ) → j < i → z ≡ grid n n (up_to j (clear_column (cell n l) i) (cell n l)) l
      → set z (j * n + i) plus0 ≡ grid n n (up_to (j + 1) (clear_column (cell n l) i) (cell n l)) l
  clear_more z j hj q =
      let e = cell n l in
      ap (λ (v : Float). set z (j * n + i) v) (sym (clear_at e i j hj))
      ∙ ap (λ (w : List Float). set w (j * n + i) (clear_column e i j i)) q
      ∙ up_more n (clear_column e i) e l j i (omega arith) hi fits (λ c h. clear_off e i j c h)

  -- from row i on the column stays
  pub clear_end : grid n n (up_to i (clear_column (cell n l) i) (cell n l)) l ≡ grid n n (clear_column (cell n l) i) l
  clear_end = up_all n i (clear_column (cell n l) i) (cell n l) l (λ r c hr h. sym (clear_low (cell n l) i r c h))

-- ---- columns below i clear, the others as they were

-- columns 0 to i − 1 are cleared above the diagonal
abbrev pub lower_to : ℕ → (ℕ → ℕ → Float) → ℕ → ℕ → Float
lower_to i e r c = cond (ltb c i) (lower e r c) (e r c)

module _ (e : ℕ → ℕ → Float) (i r c : ℕ) where
  -- a column before i is cleared
  to_done : c < i → lower_to i e r c ≡ lower e r c
  to_done h = simp (lt-ltb c i h)

  -- the others are as they were
  to_left : i ≤ c → lower_to i e r c ≡ e r c
  to_left h = simp (le-ltb c i h)

-- one column more is cleared
lower_more : (e : ℕ → ℕ → Float) (i r c : ℕ) → clear_column (lower_to i e) i r c ≡ lower_to (i + 1) e r c
lower_more e i r c =
    elim (ℕ_discrete c i) [
      | yes q ↦
          subst (λ (x : ℕ). clear_column (lower_to i e) i r x ≡ lower_to (i + 1) e r x) (sym q)
          (elim (dec_lt r i) [
            | yes h ↦ clear_at (lower_to i e) i r h ∙ sym (to_done e (i + 1) r i (omega arith) ∙ simp (lt-ltb r i h))
            | no h ↦
                clear_low (lower_to i e) i r i (omega arith) ∙ to_left e i r i (omega arith)
                ∙ sym (to_done e (i + 1) r i (omega arith) ∙ simp (le-ltb r i (omega arith)))
          ])
      | no q ↦
          clear_off (lower_to i e) i r c q
          ∙ elim (dec_lt c i) [
            | yes h ↦ to_done e i r c h ∙ sym (to_done e (i + 1) r c (omega arith))
            | no h ↦ to_left e i r c (omega arith) ∙ sym (to_left e (i + 1) r c (omega arith))
          ]
    ]

module _ (n : ℕ) (l : List Float) where
  -- before the first column none is cleared
  pub upper_start : l ≡ grid n n (lower_to 0 (cell n l)) l
  upper_start = sym (grid_self n n l) ∙ grid_ext n n _ _ l (λ r c hr hc. sym (to_left (cell n l) 0 r c (omega arith)))

  -- a turn clears column i
  pub upper_more :
      (z z' : List Float) (i : ℕ) → n * n ≤ length l → z ≡ grid n n (lower_to i (cell n l)) l → z' ≡ grid n n (clear_column (cell n z) i) z
      → z' ≡ grid n n (lower_to (i + 1) (cell n l)) l
  upper_more z z' i fits q p =
      p ∙ regrid n (λ g. clear_column g i) (lower_to i (cell n l)) l z fits (clear_local n i) q
      ∙ grid_ext n n _ _ l (λ r c hr hc. lower_more (cell n l) i r c)

  -- after the last column the triangle is
  pub upper_end : grid n n (lower_to n (cell n l)) l ≡ grid n n (lower (cell n l)) l
  upper_end = grid_ext n n _ _ l (λ r c hr hc. to_done (cell n l) n r c hc)

-- entries that agree within n by n agree with their upper triangles cleared
pub lower_local : (n : ℕ) (g h : ℕ → ℕ → Float) → Same n g h → Same n (lower g) (lower h)
lower_local n g h s r c hr hc = rw (s r c hr hc)
