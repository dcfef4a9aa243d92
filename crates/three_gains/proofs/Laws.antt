-- The transpose of three rows, in rows of four: a product with it has the entries of the product with the transpose. What is read out of an array that rows of four were just written to:
-- the numbers of S, and a row of P·Hᵀ, from which the gain's row is summed. Assumes nothing.
use mathlib.Core.Path.{◌≡◌, refl, sym, ap, ◌∙◌}
use mathlib.Core.List.{List}
use Prim.Native.Nat.{ℕ, zero, suc, ◌+◌, ◌*◌, ◌<◌, ◌≤◌}
use native.Mathlib.Omega.{arith}
use lib.ListN.{length, get_or}
use lib.Ieee.{Float, Format, nan, add, mul}
use Rattle.numbers.specs.Sums.{plus0}
use Rattle.numbers.proofs.Sums.{sum_same}
use Rattle.grids.specs.Grid.{cell, run, grid, SameEntries}
use Rattle.grids.proofs.Grids.{run_ext, grid_ext}
use Rattle.grids.proofs.Turns.{Rows, row_more}
use Rattle.entries.specs.Entries.{times, product, product_t}
use Rattle.entries.proofs.Written.{written, times_alike}
use Rattle.thin_products.specs.declared.Three.{Three}
use Rattle.thin_products.specs.Thin.{number_at}
use Rattle.std.specs.Prelude.{Option}
use Rattle.three_solved.specs.declared.Solved.{Solved}
use Rattle.three_solved.specs.Solved.{inverse_in, solved_of}
use Rattle.three_gains.specs.Widened.{widened, gain_at}

-- ---- the transpose

-- of its four columns the first three are h's rows
row_as_column : (h : ℕ → ℕ → Float) (k j : ℕ) → j < 3 → widened h k j ≡ h j k
row_as_column h k zero lt = refl
row_as_column h k (suc zero) lt = refl
row_as_column h k (suc (suc zero)) lt = refl
row_as_column h k (suc (suc (suc j))) lt = absurd (omega arith)

-- a·hᵀ, where t' has hᵀ in rows of four, written over t: the first three columns
pub as_transpose :
    (f : Format) (rows n : ℕ) (a h t t' : List Float) → n * 4 ≤ length t → t' ≡ grid n 4 (widened (cell n h)) t → SameEntries rows 3 (product f n 4 a t') (product_t f n a h)
as_transpose f rows n a h t t' fits q =
    times_alike f rows n 3 (cell n a) (cell n a) (cell 4 t') (λ k j. cell n h j k) (λ r k hr hk. refl)
    (λ k j hk hj. written n 4 (widened (cell n h)) t t' fits q k j hk (omega arith) ∙ row_as_column (cell n h) k j hj)

-- ---- S

-- The numbers on and above the diagonal are read out of an array that rows of four were just written to: v is solved from the entries.
pub solved_from :
    (f : Format) (e : ℕ → ℕ → Float) (r s z : List Float) {v : Option Solved} → 12 ≤ length z → s ≡ grid 3 4 e z
    → v
    ≡ solved_of f (add f (cell 4 s 0 0) (cell 3 r 0 0)) (add f (cell 4 s 0 1) (cell 3 r 0 1)) (add f (cell 4 s 0 2) (cell 3 r 0 2)) (add f (cell 4 s 1 1) (cell 3 r 1 1)) (add f (cell 4 s 1 2) (cell 3 r 1 2)) (add f (cell 4 s 2 2) (cell 3 r 2 2))
    → v ≡ solved_of f (add f (e 0 0) (cell 3 r 0 0)) (add f (e 0 1) (cell 3 r 0 1)) (add f (e 0 2) (cell 3 r 0 2)) (add f (e 1 1) (cell 3 r 1 1)) (add f (e 1 2) (cell 3 r 1 2)) (add f (e 2 2) (cell 3 r 2 2))
solved_from f e r s z fits q solved =
    let at : SameEntries 3 4 (cell 4 s) e = written 3 4 e z s fits q in
    rw (sym (at 0 0 (omega arith) (omega arith)), sym (at 0 1 (omega arith) (omega arith)), sym (at 0 2 (omega arith) (omega arith)), sym (at 1 1 (omega arith) (omega arith)), sym (at 1 2 (omega arith) (omega arith)), sym (at 2 2 (omega arith) (omega arith))) solved

-- ---- a row of each

-- the three numbers of row r of f, which has rows of four
abbrev pub row_of : List Float → ℕ → Three
row_of f r = record { t0 = get_or f (r * 4) nan; t1 = get_or f (r * 4 + 1) nan; t2 = get_or f (r * 4 + 2) nan }

from_row : (f : List Float) (r j : ℕ) → j < 3 → number_at (row_of f r) j ≡ cell 4 f r j
from_row f r zero h = let e : r * 4 ≡ r * 4 + 0 = omega arith in ap (λ (i : ℕ). get_or f i nan) e
from_row f r (suc zero) h = refl
from_row f r (suc (suc zero)) h = refl
from_row f r (suc (suc (suc j))) h = absurd (omega arith)

module _ (f : List Float) {rows r : ℕ} {l₀ l l' : List Float} where
  -- they are stored as they are
  pub row_put : Rows rows 3 (cell 4 f) l₀ l r → r < rows → l' ≡ run (r * 3) 3 (number_at (row_of f r)) l → Rows rows 3 (cell 4 f) l₀ l' (r + 1)
  row_put w lt q = row_more w lt (q ∙ run_ext (r * 3) 3 (number_at (row_of f r)) (cell 4 f r) l (from_row f r)) (λ j. refl)

  -- and the gain's row b is summed from them
  pub gain_put :
      (m : Format) (v : Solved) (b : Three) → (b.t0 ≡ gain_at m (row_of f r) v 0) × (b.t1 ≡ gain_at m (row_of f r) v 1) × (b.t2 ≡ gain_at m (row_of f r) v 2)
      → Rows rows 3 (times m 3 (cell 4 f) (inverse_in v)) l₀ l r → r < rows → l' ≡ run (r * 3) 3 (number_at b) l
      → Rows rows 3 (times m 3 (cell 4 f) (inverse_in v)) l₀ l' (r + 1)
  gain_put m v b sums w lt q = row_more w lt (q ∙ run_ext (r * 3) 3 (number_at b) (times m 3 (cell 4 f) (inverse_in v) r) l (λ j h. number j h ∙ entry j)) (λ j. refl)
    where
      number : (j : ℕ) → j < 3 → number_at b j ≡ gain_at m (row_of f r) v j
      number zero h = sums.0
      number (suc zero) h = sums.1
      number (suc (suc zero)) h = sums.2
      number (suc (suc (suc j))) h = absurd (omega arith)

      entry : (j : ℕ) → gain_at m (row_of f r) v j ≡ times m 3 (cell 4 f) (inverse_in v) r j
      entry j = sum_same m plus0 _ _ 3 (λ k h. ap (λ (x : Float). mul m x (inverse_in v k j)) (from_row f r k h))

-- ---- both matrices

-- made of rows of four that were just written, they are made of the entries
module _ (n : ℕ) (e : ℕ → ℕ → Float) (f z : List Float) (fits : n * 4 ≤ length z) (q : f ≡ grid n 4 e z) where
  entries : SameEntries n 3 (cell 4 f) e
  entries r j hr hj = written n 4 e z f fits q r j hr (omega arith)

  pub rows_from : (l : List Float) {l' : List Float} → l' ≡ grid n 3 (cell 4 f) l → l' ≡ grid n 3 e l
  rows_from l p = p ∙ grid_ext n 3 (cell 4 f) e l entries

  pub gains_from : (m : Format) (b : ℕ → ℕ → Float) (l : List Float) {l' : List Float} → l' ≡ grid n 3 (times m 3 (cell 4 f) b) l → l' ≡ grid n 3 (times m 3 e b) l
  gains_from m b l p = p ∙ grid_ext n 3 (times m 3 (cell 4 f) b) (times m 3 e b) l (times_alike m n 3 3 (cell 4 f) e b b entries (λ k j hk hj. refl))
