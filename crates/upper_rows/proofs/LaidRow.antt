-- A row laid down as a column, two cells at a time: the cells whose row and column are below d have been met, and the others are as they were. Assumes nothing.
use mathlib.Core.Path.{◌≡◌, refl, sym, ap, subst, ◌∙◌}
use mathlib.Core.Bool.{cond, ◌&&◌}
use mathlib.Core.List.{List}
use Prim.Native.Nat.{ℕ, ◌+◌, ◌*◌, ◌<◌, ◌≤◌}
use native.Mathlib.Decide.{ℕ_discrete, dec_lt}
use native.Mathlib.Omega.{arith}
use borrow.Author.Tests.{lt-ltb, le-ltb, eq-eqb, ne_eqb}
use lib.Dec.{ltb}
use lib.ListN.{length, set}
use lib.Ieee.{Float}
use Rattle.numbers.specs.Sums.{plus0}
use Rattle.grids.specs.Grid.{grid, cell, with_cell, Same}
use Rattle.grids.proofs.Grids.{grid-cell, grid_ext, grid_self, grid-set, with_same, with_row, with_col}
use Rattle.upper_rows.specs.Rows.{laid}

-- ---- the entries

module _ (e : ℕ → ℕ → Float) (i : ℕ) where
  -- right of the diagonal stands +0
  pub laid_right : (c : ℕ) → i < c → laid e i i c ≡ plus0
  laid_right c h = simp (eq-eqb i i refl, lt-ltb i c h)

  -- below it stands what the row had
  pub laid_down : (r : ℕ) → i < r → laid e i r i ≡ e i r
  laid_down r h = simp (ne_eqb r i (λ q. omega arith), eq-eqb i i refl, lt-ltb i r h)

  -- another row is as it was right of the diagonal
  pub laid_above : (r c : ℕ) → (r ≡ i → ⊥) → r ≤ c → laid e i r c ≡ e r c
  laid_above r c h k =
      elim (ℕ_discrete c i) [
        | yes q ↦ simp (ne_eqb r i h, eq-eqb c i q, le-ltb i r (omega arith))
        | no q ↦ simp (ne_eqb r i h, ne_eqb c i q)
      ]

  -- another column is as it was below it
  pub laid-below : (r c : ℕ) → (c ≡ i → ⊥) → c ≤ r → laid e i r c ≡ e r c
  laid-below r c h k =
      elim (ℕ_discrete r i) [
        | yes q ↦ simp (eq-eqb r i q, le-ltb i c (omega arith), ne_eqb c i h)
        | no q ↦ simp (ne_eqb r i q, ne_eqb c i h)
      ]

  -- so is what lies in no later row or column
  pub laid_early : (r c : ℕ) → r ≤ i → c ≤ i → laid e i r c ≡ e r c
  laid_early r c h k =
      elim (ℕ_discrete r i) [
        | yes q ↦ elim (ℕ_discrete c i) [
          | yes s ↦ simp (eq-eqb r i q, le-ltb i c k, eq-eqb c i s, le-ltb i r h)
          | no s ↦ simp (eq-eqb r i q, le-ltb i c k, ne_eqb c i s)
        ]
        | no q ↦ elim (ℕ_discrete c i) [
          | yes s ↦ simp (ne_eqb r i q, eq-eqb c i s, le-ltb i r h)
          | no s ↦ simp (ne_eqb r i q, ne_eqb c i s)
        ]
      ]

  -- what lies in another row and another column is as it was
  pub laid_off : (r c : ℕ) → (r ≡ i → ⊥) → (c ≡ i → ⊥) → laid e i r c ≡ e r c
  laid_off r c h k = simp (ne_eqb r i h, ne_eqb c i k)

-- entries that agree within n by n agree after the step
pub laid_local : (n i : ℕ) → i < n → (g h : ℕ → ℕ → Float) → Same n g h → Same n (laid g i) (laid h i)
laid_local n i hi g h s r c hr hc = rw (s i r hi hr, s r c hr hc)

-- ---- the cells that have been met

-- new where row and column are below d
abbrev pub laid_to : ℕ → (ℕ → ℕ → Float) → ℕ → ℕ → ℕ → Float
laid_to d e i r c = cond (ltb r d && ltb c d) (laid e i r c) (e r c)

module _ (d : ℕ) (e : ℕ → ℕ → Float) (i r c : ℕ) where
  -- a cell that is met is new
  to_new : r < d → c < d → laid_to d e i r c ≡ laid e i r c
  to_new h k = simp (lt-ltb r d h, lt-ltb c d k)

  -- a row from d on is old
  to_low : d ≤ r → laid_to d e i r c ≡ e r c
  to_low h = simp (le-ltb r d h)

  -- so is a column from d on
  to_far : d ≤ c → laid_to d e i r c ≡ e r c
  to_far h = elim (dec_lt r d) [ yes k ↦ simp (lt-ltb r d k, le-ltb c d h) | no k ↦ to_low (omega arith) ]

  -- a cell that the step leaves is as it was, met or not
  to_same : laid e i r c ≡ e r c → laid_to d e i r c ≡ e r c
  to_same q =
      elim (dec_lt r d) [
        | yes k ↦ elim (dec_lt c d) [ yes m ↦ to_new k m ∙ q | no m ↦ to_far (omega arith) ]
        | no k ↦ to_low (omega arith)
      ]

-- outside row d and column d a turn meets nothing more
to_next : (d : ℕ) (e : ℕ → ℕ → Float) (i r c : ℕ) → (r ≡ d → ⊥) → (c ≡ d → ⊥) → laid_to d e i r c ≡ laid_to (d + 1) e i r c
to_next d e i r c h k =
    elim (dec_lt r d) [
      | yes a ↦ elim (dec_lt c d) [
        | yes b ↦ to_new d e i r c a b ∙ sym (to_new (d + 1) e i r c (omega arith) (omega arith))
        | no b ↦ to_far d e i r c (omega arith) ∙ sym (to_far (d + 1) e i r c (omega arith))
      ]
      | no a ↦ to_low d e i r c (omega arith) ∙ sym (to_low (d + 1) e i r c (omega arith))
    ]

-- what d's turn leaves: (d, i) gets what (i, d) had, and (i, d) +0
two_more :
    (d : ℕ) (e : ℕ → ℕ → Float) (i : ℕ) → i < d → (r c : ℕ)
    → with_cell (with_cell (laid_to d e i) d i (e i d)) i d plus0 r c ≡ laid_to (d + 1) e i r c
two_more d e i h r c =
    let E = laid_to d e i in
    let F = with_cell E d i (e i d) in
    elim (ℕ_discrete r i) [
      | yes p ↦
          subst (λ (x : ℕ). with_cell F i d plus0 x c ≡ laid_to (d + 1) e i x c) (sym p)
          (elim (ℕ_discrete c d) [
            | yes q ↦
                subst (λ (x : ℕ). with_cell F i d plus0 i x ≡ laid_to (d + 1) e i i x) (sym q)
                (with_same F i d plus0 ∙ sym (to_new (d + 1) e i i d (omega arith) (omega arith) ∙ laid_right e i d h))
            | no q ↦
                with_col F i d plus0 i c q ∙ with_row E d i (e i d) i c (λ x. omega arith)
                ∙ to_next d e i i c (λ x. omega arith) q
          ])
      | no p ↦
          with_row F i d plus0 r c p
          ∙ elim (ℕ_discrete r d) [
            | yes q ↦
                subst (λ (x : ℕ). with_cell E d i (e i d) x c ≡ laid_to (d + 1) e i x c) (sym q)
                (elim (ℕ_discrete c i) [
                  | yes s ↦
                      subst (λ (x : ℕ). with_cell E d i (e i d) d x ≡ laid_to (d + 1) e i d x) (sym s)
                      (with_same E d i (e i d) ∙ sym (to_new (d + 1) e i d i (omega arith) (omega arith) ∙ laid_down e i d h))
                  | no s ↦
                      with_col E d i (e i d) d c s ∙ to_low d e i d c (omega arith)
                      ∙ sym (to_same (d + 1) e i d c (laid_off e i d c (λ x. omega arith) s))
                ])
            | no q ↦
                with_row E d i (e i d) r c q
                ∙ elim (ℕ_discrete c d) [
                  | yes s ↦
                      let same = laid_off e i r c p (λ x. omega arith) in
                      to_same d e i r c same ∙ sym (to_same (d + 1) e i r c same)
                  | no s ↦ to_next d e i r c q s
                ]
          ]
    ]

-- ---- in the buffer

module _ (n : ℕ) (l : List Float) (i : ℕ) (hi : i < n) (fits : n * n ≤ length l) where
  -- before the first turn none is met that changes
  pub laid_start : l ≡ grid n n (laid_to (i + 1) (cell n l) i) l
  laid_start =
      sym (grid_self n n l)
      ∙ grid_ext n n _ _ l (λ r c hr hc.
      sym (elim (dec_lt i r) [
        | yes k ↦ to_low (i + 1) (cell n l) i r c (omega arith)
        | no k ↦ elim (dec_lt i c) [
          | yes m ↦ to_far (i + 1) (cell n l) i r c (omega arith)
          | no m ↦ to_same (i + 1) (cell n l) i r c (laid_early (cell n l) i r c (omega arith) (omega arith))
        ]
      ]))

  -- a turn moves the cell (i, d) to (d, i), and puts +0 in its place
  pub laid_more :
      (z : List Float) (d : ℕ) → i < d → d < n → z ≡ grid n n (laid_to d (cell n l) i) l
      → set (set z (d * n + i) (cell n z i d)) (i * n + d) plus0 ≡ grid n n (laid_to (d + 1) (cell n l) i) l
  laid_more z d hd hn q =
      let e = cell n l in
      let E = laid_to d e i in
      let was : cell n z i d ≡ e i d =
      ap (λ (w : List Float). cell n w i d) q ∙ grid-cell n n E l i d hi hn fits ∙ to_far d e i i d (omega arith) in
      ap (λ (v : Float). set (set z (d * n + i) v) (i * n + d) plus0) was
      ∙ ap (λ (w : List Float). set (set w (d * n + i) (e i d)) (i * n + d) plus0) q
      ∙ ap (λ (w : List Float). set w (i * n + d) plus0) (grid-set n n E l d i (e i d) hn hi fits)
      ∙ grid-set n n (with_cell E d i (e i d)) l i d plus0 hi hn fits
      ∙ grid_ext n n _ _ l (λ r c hr hc. two_more d e i hd r c)

  -- once d is n every cell is met
  pub laid_end : grid n n (laid_to n (cell n l) i) l ≡ grid n n (laid (cell n l) i) l
  laid_end = grid_ext n n _ _ l (λ r c hr hc. to_new n (cell n l) i r c hr hc)
