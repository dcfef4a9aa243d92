-- Loops that write a row four cells at a time and then one by one, and loops that write row after row: what holds before each turn, that a turn keeps it,
-- and what they leave. Assumes nothing.
use mathlib.Core.Path.{◌≡◌, refl, sym, ap, ◌∙◌}
use mathlib.Core.List.{List}
use Prim.Native.Nat.{ℕ, ◌+◌, ◌*◌, ◌<◌, ◌≤◌}
use native.Mathlib.Nat.{zero-add}
use native.Mathlib.Numerals.{add-one}
use native.Mathlib.Omega.{arith}
use lib.ListN.{length, get_or, set, length-set}
use lib.Ieee.{Float, Format, nan, add, mul}
use Rattle.grids.specs.Grid.{cell, run, grid}
use Rattle.grids.proofs.Grids.{run_past, run_ext, length_run, grid_past}
use Rattle.grids.proofs.Loops.{Writing, written, all_written}

-- ---- one row

-- the buffer l with four numbers in four cells from p upward
abbrev pub put4 : List Float → ℕ → Float → Float → Float → Float → List Float
put4 l p t0 t1 t2 t3 = set (set (set (set l p t0) (p + 1) t1) (p + 2) t2) (p + 3) t3

-- a cell that is still to be written is as it was
pub unread_at : {at n : ℕ} {g : ℕ → Float} {l₀ l : List Float} {j : ℕ} → Writing at n g l₀ l j → (i : ℕ) → j ≤ i → get_or l (at + i) nan ≡ get_or l₀ (at + i) nan
unread_at {at} {n} {g} {l₀} {l} {j} w i h = ap (λ (k : List Float). get_or k (at + i) nan) w.so_far ∙ run_past at j g l₀ (at + i) (omega arith)

-- one cell more, at its place p
pub one_more :
    {at n : ℕ} {g : ℕ → Float} {l₀ l : List Float} {j p j' : ℕ} {v : Float} → Writing at n g l₀ l j → j < n → p ≡ at + j → j' ≡ j + 1 → v ≡ g j
    → Writing at n g l₀ (set l p v) j'
one_more w h e s q = rw (e, q, s) (written w h)

-- four cells more, from their place p upward
pub four_more :
    {at n : ℕ} {g : ℕ → Float} {l₀ l l' : List Float} {j p : ℕ} {t0 t1 t2 t3 : Float} → Writing at n g l₀ l j → j + 4 ≤ n → p ≡ at + j
    → (t0 ≡ g j) × (t1 ≡ g (j + 1)) × (t2 ≡ g (j + 2)) × (t3 ≡ g (j + 3)) → l' ≡ put4 l p t0 t1 t2 t3
    → Writing at n g l₀ l' (j + 4)
four_more {at} {n} {g} {l₀} {l} {l'} {j} {p} w h e t q =
    let w1 : Writing at n g l₀ _ (j + 1) = one_more w (omega arith) e refl t.0 in
    let w2 : Writing at n g l₀ _ (j + 2) = one_more {p = p + 1} w1 (omega arith) (omega arith) (omega arith) t.1 in
    let w3 : Writing at n g l₀ _ (j + 3) = one_more {p = p + 2} w2 (omega arith) (omega arith) (omega arith) t.2 in
    let w4 : Writing at n g l₀ _ (j + 4) = one_more {p = p + 3} w3 (omega arith) (omega arith) (omega arith) t.3 in
    rw q w4

-- From j₀ on: a loop that goes on writing where another stopped knows the buffer as it was then, l₀, and says for any z that what the first wrote over z is written on.
-- The numbers may depend on z, as where they are added to it.
pub record Onward (at n : ℕ) (g : List Float → ℕ → Float) (l₀ : List Float) (j₀ : ℕ) (l : List Float) (j : ℕ) : Type 0 where
  pub within : j ≤ n
  pub size : length l ≡ length l₀
  pub goes_on : (z : List Float) → Writing at n (g z) z l₀ j₀ → Writing at n (g z) z l j

-- where the second loop begins
pub onward : {at n : ℕ} {g : List Float → ℕ → Float} {l₀ : List Float} {j₀ : ℕ} → j₀ ≤ n → Onward at n g l₀ j₀ l₀ j₀
onward h = record { within = h; size = refl; goes_on = λ z w. w }

-- one cell more, at its place p
pub one_onward :
    {at n : ℕ} {g : List Float → ℕ → Float} {l₀ l : List Float} {j₀ j p : ℕ} {v : Float} → Onward at n g l₀ j₀ l j → j < n → p ≡ at + j
    → ((z : List Float) → Writing at n (g z) z l j → v ≡ g z j)
    → Onward at n g l₀ j₀ (set l p v) (j + 1)
one_onward {at} {n} {g} {l₀} {l} {j₀} {j} {p} {v} o h e q = record {
  within = omega arith;
  size = length-set l p v ∙ o.size;
  goes_on = λ z w. let w' = o.goes_on z w in one_more w' h e refl (q z w');
}

-- both loops together wrote the row over z
pub all_onward : {at n : ℕ} {g : List Float → ℕ → Float} {z l₀ l : List Float} {j₀ j : ℕ} → Writing at n (g z) z l₀ j₀ → Onward at n g l₀ j₀ l j → n ≤ j → l ≡ run at n (g z) z
all_onward {z = z} w o h = all_written (o.goes_on z w) h

-- four cells more of numbers that are scaled
pub four_scaled :
    (f : Format) (h : ℕ → Float) (x : Float) {at n : ℕ} {l₀ l l' : List Float} {j p : ℕ} {v0 v1 v2 v3 t0 t1 t2 t3 : Float} → Writing at n (λ i. mul f (h i) x) l₀ l j
    → j + 4 ≤ n → p ≡ at + j
    → (v0 ≡ mul f t0 x) × (v1 ≡ mul f t1 x) × (v2 ≡ mul f t2 x) × (v3 ≡ mul f t3 x)
    → (t0 ≡ h j) × (t1 ≡ h (j + 1)) × (t2 ≡ h (j + 2)) × (t3 ≡ h (j + 3)) → l' ≡ put4 l p v0 v1 v2 v3
    → Writing at n (λ i. mul f (h i) x) l₀ l' (j + 4)
four_scaled f h x w le e v t q = four_more w le e (v.0 ∙ by t.0, v.1 ∙ by t.1, v.2 ∙ by t.2, v.3 ∙ by t.3) q
  where
    by : {t u : Float} → t ≡ u → mul f t x ≡ mul f u x
    by e = ap (λ (y : Float). mul f y x) e

-- ---- one row, added to what was there

-- the numbers g are those of h added to the cells of z from `at` on
abbrev pub AddedTo : Format → ℕ → (ℕ → Float) → List Float → (ℕ → Float) → Type 0
AddedTo f at h z g = (i : ℕ) → g i ≡ add f (get_or z (at + i) nan) (h i)

-- where the cells begin at the front
pub to_front : (f : Format) (h : ℕ → Float) (z : List Float) → AddedTo f 0 h z (λ i. add f (get_or z i nan) (h i))
to_front f h z i = rw zero-add

-- a cell that is still to be written, with its number added
pub cell_added :
    (f : Format) (h : ℕ → Float) {at n : ℕ} {g : ℕ → Float} {l₀ l : List Float} {j p : ℕ} {t : Float} → AddedTo f at h l₀ g → Writing at n g l₀ l j
    → (i : ℕ) → j ≤ i → p ≡ at + i → t ≡ h i → add f (get_or l p nan) t ≡ g i
cell_added f h {at} {n} {g} {l₀} {l} {j} {p} {t} s w i le e r = rw (e, r, unread_at w i le) (sym (s i))

-- four cells more, from their place p upward
pub four_added :
    (f : Format) (h : ℕ → Float) {at n : ℕ} {g : ℕ → Float} {l₀ l l' : List Float} {j p : ℕ} {t0 t1 t2 t3 : Float} → AddedTo f at h l₀ g → Writing at n g l₀ l j
    → j + 4 ≤ n → p ≡ at + j → (t0 ≡ h j) × (t1 ≡ h (j + 1)) × (t2 ≡ h (j + 2)) × (t3 ≡ h (j + 3))
    → l' ≡ put4 l p (add f (get_or l p nan) t0) (add f (get_or l (p + 1) nan) t1) (add f (get_or l (p + 2) nan) t2) (add f (get_or l (p + 3) nan) t3)
    → Writing at n g l₀ l' (j + 4)
four_added f h {at} {n} {g} {l₀} {l} {l'} {j} {p} s w le e t q =
    four_more w le e (
      cell_added f h s w j (omega arith) e t.0,
      cell_added f h {p = p + 1} s w (j + 1) (omega arith) (omega arith) t.1,
      cell_added f h {p = p + 2} s w (j + 2) (omega arith) (omega arith) t.2,
      cell_added f h {p = p + 3} s w (j + 3) (omega arith) (omega arith) t.3,
    ) q

-- one cell more where another loop stopped
pub one_added :
    (f : Format) (h : ℕ → Float) {at n : ℕ} {g : List Float → ℕ → Float} {l₀ l : List Float} {j₀ j p : ℕ} {t : Float} → ((z : List Float) → AddedTo f at h z (g z))
    → Onward at n g l₀ j₀ l j → j < n → p ≡ at + j → t ≡ h j
    → Onward at n g l₀ j₀ (set l p (add f (get_or l p nan) t)) (j + 1)
one_added f h {at} {n} {g} {l₀} {l} {j₀} {j} s o le e r = one_onward o le e (λ z w. cell_added f h (s z) w j (omega arith) e r)

-- ---- row after row

-- r of the rows are written
pub record Rows (rows cols : ℕ) (e : ℕ → ℕ → Float) (l₀ l : List Float) (r : ℕ) : Type 0 where
  pub within : r ≤ rows
  pub size : length l ≡ length l₀
  pub so_far : l ≡ grid r cols e l₀

-- before the first row
pub no_rows : {rows cols : ℕ} {e : ℕ → ℕ → Float} {l₀ : List Float} → Rows rows cols e l₀ l₀ 0
unfolding grid
no_rows = record { within = omega arith; size = refl; so_far = refl }

-- a row that is still to be written is as it was
pub unread_row : {rows cols : ℕ} {e : ℕ → ℕ → Float} {l₀ l : List Float} {r : ℕ} → Rows rows cols e l₀ l r → (j : ℕ) → cell cols l r j ≡ cell cols l₀ r j
unread_row {rows} {cols} {e} {l₀} {l} {r} w j = ap (λ (k : List Float). cell cols k r j) w.so_far ∙ grid_past r cols e l₀ (r * cols + j) (omega arith)

-- one row more
pub row_more :
    {rows cols : ℕ} {e : ℕ → ℕ → Float} {l₀ l l' : List Float} {r : ℕ} {g : ℕ → Float} → Rows rows cols e l₀ l r → r < rows → l' ≡ run (r * cols) cols g l
    → ((j : ℕ) → g j ≡ e r j)
    → Rows rows cols e l₀ l' (r + 1)
unfolding grid
row_more {rows} {cols} {e} {l₀} {l} {l'} {r} {g} w h q same = record {
  within = omega arith;
  size = ap length q ∙ length_run (r * cols) cols g l ∙ w.size;
  so_far = q ∙ run_ext (r * cols) cols g (e r) l (λ j lt. same j) ∙ ap (run (r * cols) cols (e r)) w.so_far ∙ rw add-one;
}

-- one row more where the numbers are added to what was there
pub row_added :
    (f : Format) (h : ℕ → ℕ → Float) {rows cols : ℕ} {l₀ l l' : List Float} {r : ℕ} → Rows rows cols (λ i j. add f (cell cols l₀ i j) (h i j)) l₀ l r → r < rows
    → l' ≡ run (r * cols) cols (λ j. add f (cell cols l r j) (h r j)) l
    → Rows rows cols (λ i j. add f (cell cols l₀ i j) (h i j)) l₀ l' (r + 1)
row_added f h {rows} {cols} {l₀} {l} {l'} {r} w lt q = row_more w lt q (λ j. ap (λ (x : Float). add f x (h r j)) (unread_row w j))

-- after the last row the matrix is written
pub all_rows : {rows cols : ℕ} {e : ℕ → ℕ → Float} {l₀ l : List Float} {r : ℕ} → Rows rows cols e l₀ l r → rows ≤ r → l ≡ grid rows cols e l₀
all_rows {rows} {cols} {e} {l₀} {l} {r} w h = let q : r ≡ rows = omega (arith, w.within) in w.so_far ∙ ap (λ (k : ℕ). grid k cols e l₀) q
