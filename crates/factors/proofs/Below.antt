-- Column i below the diagonal, a cell at a time: what a turn reads lies in other columns, which no turn writes. Assumes nothing.
use mathlib.Core.Path.{◌≡◌, refl, sym, ap, ◌∙◌}
use mathlib.Core.List.{List}
use Prim.Native.Nat.{ℕ, zero, suc, ◌+◌, ◌*◌, ◌<◌, ◌≤◌}
use native.Mathlib.Decide.{ℕ_discrete}
use native.Mathlib.Omega.{arith}
use borrow.Author.Tests.{lt-ltb, le-ltb, eq-eqb, ne_eqb}
use lib.ListN.{length, set}
use lib.Ieee.{Float, Format, mul}
use Rattle.grids.specs.Grid.{grid, cell, with_cell, Same}
use Rattle.grids.proofs.Grids.{grid-cell}
use Rattle.factors.specs.Decomposition.{less_dot, remains, below}
use Rattle.grids.proofs.Steps.{up_to, regrid, up_start, up_same, up_more, set-cell}

-- ---- the running difference goes by the cells that it reads

-- two running differences are equal where their starts and their factors are
less_ext :
    (f : Format) (s s' : Float) (x y x' y' : ℕ → Float) (n : ℕ) → s ≡ s' → ((k : ℕ) → k < n → x k ≡ x' k) → ((k : ℕ) → k < n → y k ≡ y' k)
    → less_dot f s x y n ≡ less_dot f s' x' y' n
unfolding less_dot
less_ext f s s' x y x' y' zero p q r = p
less_ext f s s' x y x' y' (suc n) p q r =
    cc (less_ext f s s' x y x' y' n p (λ k h. q k (omega arith)) (λ k h. r k (omega arith)), q n (omega arith), r n (omega arith))

-- the rest at (i, j) goes by the cell (i, j) and by what rows i and j hold left of column i
pub remains_ext :
    (f : Format) (e g : ℕ → ℕ → Float) (i j : ℕ) → e i j ≡ g i j → ((k : ℕ) → k < i → e i k ≡ g i k) → ((k : ℕ) → k < i → e j k ≡ g j k)
    → remains f e i j ≡ remains f g i j
remains_ext f e g i j p q r = less_ext f (e i j) (g i j) (e i) (e j) (g i) (g j) i p q r

-- entries that agree within n by n have the same rests
pub remains_local : (f : Format) (n : ℕ) (e g : ℕ → ℕ → Float) (i j : ℕ) → i < n → j < n → Same n e g → remains f e i j ≡ remains f g i j
remains_local f n e g i j hi hj s = remains_ext f e g i j (s i j hi hj) (λ k h. s i k hi (omega arith)) (λ k h. s j k hj (omega arith))

-- ---- the column

module _ (f : Format) (e : ℕ → ℕ → Float) (i : ℕ) (d : Float) where
  -- another column is as it was
  pub below_off : (r c : ℕ) → (c ≡ i → ⊥) → below f e i d r c ≡ e r c
  below_off r c h = simp (ne_eqb c i h)

  -- so is what lies on the diagonal and above it
  pub below_up : (r c : ℕ) → r ≤ i → below f e i d r c ≡ e r c
  below_up r c h = elim (ℕ_discrete c i) [ yes q ↦ simp (eq-eqb c i q, le-ltb i r h) | no q ↦ below_off r c q ]

  -- below the diagonal stands the rest times d
  pub below_at : (r : ℕ) → i < r → below f e i d r i ≡ mul f (remains f e i r) d
  below_at r h = simp (eq-eqb i i refl, lt-ltb i r h)

-- entries that agree within n by n agree after the step
pub below_local : (f : Format) (n i : ℕ) (d : Float) → i < n → (g h : ℕ → ℕ → Float) → Same n g h → Same n (below f g i d) (below f h i d)
below_local f n i d hi g h s r c hr hc = cc (remains_local f n g h i r hi hr s, s r c hr hc)

-- ---- the column in the buffer

module _ (f : Format) (n : ℕ) (l : List Float) (i : ℕ) (d : Float) (hi : i < n) (fits : n * n ≤ length l) where
  -- before the first turn no cell of the column is new
  pub below_start : l ≡ grid n n (up_to (i + 1) (below f (cell n l) i d) (cell n l)) l
  below_start = up_start n (i + 1) _ l (λ r c h. below_up f (cell n l) i d r c (omega arith))

  -- a turn writes the cell (j, i): what it reads lies in other columns, so it is as it was
  pub below_more :
      (z : List Float) (j : ℕ) → i < j → j < n → z ≡ grid n n (up_to j (below f (cell n l) i d) (cell n l)) l
      → set z (j * n + i) (mul f (remains f (cell n z) i j) d) ≡ grid n n (up_to (j + 1) (below f (cell n l) i d) (cell n l)) l
  below_more z j hij hj q =
      let e = cell n l in
      let off : (r c : ℕ) → r < n → c < n → (c ≡ i → ⊥) → cell n z r c ≡ e r c =
      λ r c hr hc h. ap (λ (w : List Float). cell n w r c) q ∙ grid-cell n n (up_to j (below f e i d) e) l r c hr hc fits ∙ up_same j (below f e i d) e r c (below_off f e i d r c h) in
      let same : remains f (cell n z) i j ≡ remains f e i j =
      remains_ext f (cell n z) e i j (off i j hi hj (λ x. omega arith)) (λ k h. off i k hi (omega arith) (λ x. omega arith)) (λ k h. off j k hj (omega arith) (λ x. omega arith)) in
      ap (λ (v : Float). set z (j * n + i) (mul f v d)) same
      ∙ ap (λ (v : Float). set z (j * n + i) v) (sym (below_at f e i d j hij))
      ∙ ap (λ (w : List Float). set w (j * n + i) (below f e i d j i)) q
      ∙ up_more n (below f e i d) e l j i hj hi fits (λ c h. below_off f e i d j c h)

  -- v stored at (i, i), and then the rest of the column
  pub below_after :
      (v : Float) (z : List Float) → z ≡ grid n n (below f (cell n (set l (i * n + i) v)) i d) (set l (i * n + i) v)
      → z ≡ grid n n (below f (with_cell (cell n l) i i v) i d) l
  below_after v z q = q ∙ regrid n (λ e. below f e i d) (with_cell (cell n l) i i v) l (set l (i * n + i) v) fits (below_local f n i d hi) (set-cell n l i i v hi hi fits)
