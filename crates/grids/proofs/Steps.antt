-- Laws of entries that go through steps in a lent buffer: a step repeated from the buffer itself, one cell of a row more. Assumes nothing.
use mathlib.Core.Path.{◌≡◌, refl, sym, ap, subst, ◌∙◌}
use mathlib.Core.Bool.{cond}
use mathlib.Core.List.{List}
use Prim.Native.Nat.{ℕ, zero, suc, ◌+◌, ◌*◌, ◌<◌, ◌≤◌}
use native.Mathlib.Decide.{ℕ_discrete, dec_lt}
use native.Mathlib.Omega.{arith}
use borrow.Author.Tests.{lt-ltb, le-ltb}
use lib.Dec.{ltb}
use lib.ListN.{length, set}
use lib.Ieee.{Float}
use Rattle.grids.specs.Grid.{grid, cell, with_cell, Same}
use Rattle.grids.proofs.Grids.{length-grid, grid-cell, grid_past, grid_ext, grid_self, grid-set, grid_unique, with_same, with_row, with_col}

-- A grid in a grid's place is that grid.
pub grid_over : (n : ℕ) (g e : ℕ → ℕ → Float) (l : List Float) → n * n ≤ length l → grid n n g (grid n n e l) ≡ grid n n g l
unfolding grid
grid_over zero g e l h = refl
grid_over (suc m) g e l h =
    let n = suc m in
    let z = grid n n e l in
    grid_unique n n g l (grid n n g z) (omega arith) h (length-grid n n g z ∙ length-grid n n e l)
    (λ r j hr hj. grid-cell n n g z r j hr hj (omega (arith, length-grid n n e l)))
    (λ i past. grid_past n n g z i past ∙ grid_past n n e l i past)

-- What a function says of the buffer z that it is handed, said of the buffer and the entries before: `step` goes by the entries within n by n alone.
pub regrid :
    (n : ℕ) (step : (ℕ → ℕ → Float) → ℕ → ℕ → Float) (e : ℕ → ℕ → Float) (l z : List Float) → n * n ≤ length l
    → ((g h : ℕ → ℕ → Float) → Same n g h → Same n (step g) (step h))
    → z ≡ grid n n e l → grid n n (step (cell n z)) z ≡ grid n n (step e) l
regrid n step e l z fits local q =
    subst (λ (w : List Float). grid n n (step (cell n w)) w ≡ grid n n (step e) l) (sym q)
    (grid_over n _ e l fits ∙ grid_ext n n _ _ l (local _ _ (λ r c hr hc. grid-cell n n e l r c hr hc fits)))

-- ---- rows below j new, the others old

-- rows 0 to j − 1 new, the others old
abbrev pub up_to : ℕ → (ℕ → ℕ → Float) → (ℕ → ℕ → Float) → ℕ → ℕ → Float
up_to j new old r c = cond (ltb r j) (new r c) (old r c)

-- A row below j is new.
pub up_new : (j : ℕ) (new old : ℕ → ℕ → Float) (r c : ℕ) → r < j → up_to j new old r c ≡ new r c
up_new j new old r c h = simp (lt-ltb r j h)

-- A row from j on is old.
pub up_old : (j : ℕ) (new old : ℕ → ℕ → Float) (r c : ℕ) → j ≤ r → up_to j new old r c ≡ old r c
up_old j new old r c h = simp (le-ltb r j h)

-- An entry that is no other in the new is the old one in every row.
pub up_same : (j : ℕ) (new old : ℕ → ℕ → Float) (r c : ℕ) → new r c ≡ old r c → up_to j new old r c ≡ old r c
up_same j new old r c q = elim (dec_lt r j) [ yes h ↦ up_new j new old r c h ∙ q | no h ↦ up_old j new old r c (omega arith) ]

-- Where the rows below j are as the buffer has them, the buffer is as it was.
pub up_start : (n j : ℕ) (new : ℕ → ℕ → Float) (l : List Float) → ((r c : ℕ) → r < j → new r c ≡ cell n l r c) → l ≡ grid n n (up_to j new (cell n l)) l
up_start n j new l h =
    sym (grid_self n n l)
    ∙ grid_ext n n _ _ l (λ r c hr hc. sym (elim (dec_lt r j) [ yes k ↦ up_new j new (cell n l) r c k ∙ h r c k | no k ↦ up_old j new (cell n l) r c (omega arith) ]))

-- The cell (j, i) written makes row j new, where row j is new in that cell alone.
pub up_more :
    (n : ℕ) (new old : ℕ → ℕ → Float) (l : List Float) (j i : ℕ) → j < n → i < n → n * n ≤ length l
    → ((c : ℕ) → (c ≡ i → ⊥) → new j c ≡ old j c)
    → set (grid n n (up_to j new old) l) (j * n + i) (new j i) ≡ grid n n (up_to (j + 1) new old) l
up_more n new old l j i hj hi fits h =
    grid-set n n (up_to j new old) l j i (new j i) hj hi fits
    ∙ grid_ext n n _ _ l (λ r c hr hc.
    elim (ℕ_discrete r j) [
      | yes q ↦
          subst (λ (x : ℕ). with_cell (up_to j new old) j i (new j i) x c ≡ up_to (j + 1) new old x c) (sym q)
          (elim (ℕ_discrete c i) [
            | yes s ↦
                subst (λ (x : ℕ). with_cell (up_to j new old) j i (new j i) j x ≡ up_to (j + 1) new old j x) (sym s)
                (with_same (up_to j new old) j i (new j i) ∙ sym (up_new (j + 1) new old j i (omega arith)))
            | no s ↦
                with_col (up_to j new old) j i (new j i) j c s ∙ up_old j new old j c (omega arith) ∙ sym (h c s) ∙ sym (up_new (j + 1) new old j c (omega arith))
          ])
      | no q ↦
          with_row (up_to j new old) j i (new j i) r c q
          ∙ elim (dec_lt r j) [
            | yes k ↦ up_new j new old r c k ∙ sym (up_new (j + 1) new old r c (omega arith))
            | no k ↦ up_old j new old r c (omega arith) ∙ sym (up_old (j + 1) new old r c (omega arith))
          ]
    ])

-- Once the rows from j on are no other in the new, all is new.
pub up_all :
    (n j : ℕ) (new old : ℕ → ℕ → Float) (l : List Float) → ((r c : ℕ) → r < n → j ≤ r → old r c ≡ new r c)
    → grid n n (up_to j new old) l ≡ grid n n new l
up_all n j new old l h =
    grid_ext n n _ _ l (λ r c hr hc. elim (dec_lt r j) [ yes k ↦ up_new j new old r c k | no k ↦ up_old j new old r c (omega arith) ∙ h r c hr (omega arith) ])

-- ---- one cell

-- A number stored in a buffer is an entry of its matrix changed.
pub set-cell :
    (n : ℕ) (l : List Float) (r c : ℕ) (v : Float) → r < n → c < n → n * n ≤ length l
    → set l (r * n + c) v ≡ grid n n (with_cell (cell n l) r c v) l
set-cell n l r c v hr hc fits =
    ap (λ (w : List Float). set w (r * n + c) v) (sym (grid_self n n l)) ∙ grid-set n n (cell n l) l r c v hr hc fits

-- One entry changed goes by the entries within n by n alone.
pub with_local : (n : ℕ) (g h : ℕ → ℕ → Float) (i j : ℕ) (v : Float) → Same n g h → Same n (with_cell g i j v) (with_cell h i j v)
with_local n g h i j v s r c hr hc = rw (s r c hr hc)
