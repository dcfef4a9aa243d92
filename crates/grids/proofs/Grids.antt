-- Laws of `run` and `grid`, the buffer after a matrix was written: length, cells, what lies past, extensionality, one cell more. Assumes nothing.
use mathlib.Core.Path.{◌≡◌, refl, sym, ap, ◌∙◌}
use mathlib.Core.Logic.{◌⊎◌, inl, inr, ⊎_elim}
use mathlib.Core.List.{List}
use Prim.Native.Nat.{ℕ, zero, suc, ◌+◌, ◌-◌, ◌*◌, ◌/◌, ◌%◌, ◌<◌, ◌≤◌}
use native.Mathlib.Nat.{zero-mul, zero-add, suc-mul, add-suc, add_assoc, add-zero, mul-le-mul_right, not-suc-le-zero, le_of_suc-le-suc, eq-or-lt_of_le, div-lt_iff_lt-mul, mod-lt, div-add-mod'}
use native.Mathlib.Numerals.{add-one}
use native.Mathlib.Decide.{dec_lt, ℕ_discrete}
use native.Mathlib.Omega.{arith}
use borrow.Author.Tests.{eq-eqb, ne_eqb}
use lib.ListN.{length, get_or, take, drop, set, length-set, length-drop}
use lib.Seq.{take_all, get_or-drop, get_or-set_same, get_or-set_other, set-set, set_comm, set-get_or, ext_get_or}
use lib.Ieee.{Float, nan}
use Rattle.grids.specs.Grid.{run, grid, cell, with_cell}

-- ---- places

-- cell (r, j) lies within the matrix
pub inside : (rows w r j : ℕ) → r < rows → j < w → r * w + j < rows * w
inside rows w r j hr hj = omega (arith, suc-mul r w, mul-le-mul_right w hr)

-- row r lies within the matrix
pub row_in : (rows w r : ℕ) → r < rows → r * w + w ≤ rows * w
row_in rows w r hr = omega (arith, suc-mul r w, mul-le-mul_right w hr)

-- the part of a buffer from p on, as a loan `&l[p..]` has it
pub part_rest : (p : ℕ) (l : List Float) → take (length l - p) (drop p l) ≡ drop p l
part_rest p l = take_all (length l - p) (drop p l) (omega (arith, length-drop p l))

-- it has what is left of the buffer
pub part_length : (p : ℕ) (l : List Float) → length (take (length l - p) (drop p l)) ≡ length l - p
part_length p l = ap length (part_rest p l) ∙ length-drop p l

-- ---- runs

-- a run of no cell, and of one more
pub run_none : (at : ℕ) (g : ℕ → Float) (l : List Float) → run at 0 g l ≡ l
unfolding run
run_none at g l = refl

pub run_more : (at n : ℕ) (g : ℕ → Float) (l : List Float) → run at (n + 1) g l ≡ set (run at n g l) (at + n) (g n)
unfolding run
run_more at n g l = rw add-one

-- a run of one cell more, at its place p
pub cell_more : (at n p : ℕ) (g : ℕ → Float) (l₀ l : List Float) (v : Float) → l ≡ run at n g l₀ → p ≡ at + n → v ≡ g n → set l p v ≡ run at (n + 1) g l₀
cell_more at n p g l₀ l v e q s = rw (e, q, s, run_more at n g l₀)

-- a run keeps the length
pub length_run : (at n : ℕ) (g : ℕ → Float) (l : List Float) → length (run at n g l) ≡ length l
unfolding run
length_run at zero g l = refl
length_run at (suc n) g l = length-set (run at n g l) (at + n) (g n) ∙ length_run at n g l

-- a buffer that a run was written to holds what it held
pub run_holds : (at n k : ℕ) (g : ℕ → Float) (l z : List Float) → z ≡ run at n g l → k ≤ length l → k ≤ length z
run_holds at n k g l z e h = omega (arith, ap length e, length_run at n g l)

-- before a run the buffer is as it was
pub run_before : (at n : ℕ) (g : ℕ → Float) (l : List Float) (i : ℕ) → i < at → get_or (run at n g l) i nan ≡ get_or l i nan
unfolding run
run_before at zero g l i h = refl
run_before at (suc n) g l i h = get_or-set_other (run at n g l) (at + n) i (g n) nan (λ e. omega arith) ∙ run_before at n g l i h

-- past a run the buffer is as it was
pub run_past : (at n : ℕ) (g : ℕ → Float) (l : List Float) (i : ℕ) → at + n ≤ i → get_or (run at n g l) i nan ≡ get_or l i nan
unfolding run
run_past at zero g l i h = refl
run_past at (suc n) g l i h = get_or-set_other (run at n g l) (at + n) i (g n) nan (λ e. omega arith) ∙ run_past at n g l i (omega arith)

-- within a run cell j is g j
pub run-cell : (at n : ℕ) (g : ℕ → Float) (l : List Float) (j : ℕ) → j < n → at + n ≤ length l → get_or (run at n g l) (at + j) nan ≡ g j
unfolding run
run-cell at zero g l j h k = absurd (not-suc-le-zero h)
run-cell at (suc n) g l j h k =
    ⊎_elim
    (λ e. ap (λ (i : ℕ). get_or (set (run at n g l) (at + n) (g n)) (at + i) nan) e ∙ get_or-set_same (run at n g l) (at + n) (g n) nan (omega (arith, length_run at n g l)) ∙ sym (ap g e))
    (λ lt. get_or-set_other (run at n g l) (at + n) (at + j) (g n) nan (λ e. omega arith) ∙ run-cell at n g l j lt (omega arith))
    (eq-or-lt_of_le (le_of_suc-le-suc h))

-- a run goes by the numbers that it writes alone
pub run_ext : (at n : ℕ) (g h : ℕ → Float) (l : List Float) → ((j : ℕ) → j < n → g j ≡ h j) → run at n g l ≡ run at n h l
unfolding run
run_ext at zero g h l e = refl
run_ext at (suc n) g h l e = rw (run_ext at n g h l (λ j lt. e j (omega arith)), e n (omega arith))

-- a run that reads a part of another buffer reads that buffer from p on
pub run_part : (p n : ℕ) (k l : List Float) → run 0 n (λ j. get_or (take (length k - p) (drop p k)) j nan) l ≡ run 0 n (λ j. get_or k (p + j) nan) l
run_part p n k l = run_ext 0 n _ _ l (λ j h. ap (λ (q : List Float). get_or q j nan) (part_rest p k) ∙ get_or-drop p k j nan)

-- a run that writes what is there changes nothing
pub run_self : (at n : ℕ) (l : List Float) → run at n (λ j. get_or l (at + j) nan) l ≡ l
unfolding run
run_self at zero l = refl
run_self at (suc n) l = rw (run_self at n l) (set-get_or l (at + n) nan)

-- a cell past a run may be set first
run-set : (at n : ℕ) (g : ℕ → Float) (l : List Float) (i : ℕ) (v : Float) → at + n ≤ i → run at n g (set l i v) ≡ set (run at n g l) i v
unfolding run
run-set at zero g l i v h = refl
run-set at (suc n) g l i v h = rw (run-set at n g l i v (omega arith)) (set_comm (run at n g l) i (at + n) v (g n) (λ e. omega arith))

-- a run that is written again
pub run-run : (at n : ℕ) (g h : ℕ → Float) (l : List Float) → run at n g (run at n h l) ≡ run at n g l
unfolding run
run-run at zero g h l = refl
run-run at (suc n) g h l =
    rw (run-set at n g (run at n h l) (at + n) (h n) (omega arith), run-run at n g h l) (set-set (run at n g l) (at + n) (h n) (g n))

-- the same of a buffer that a run was written to
pub run_over : (at n : ℕ) (g h : ℕ → Float) (z l : List Float) → z ≡ run at n h l → run at n g z ≡ run at n g l
run_over at n g h z l e = ap (run at n g) e ∙ run-run at n g h l

-- two runs, one after the other
pub run-add : (at n m : ℕ) (g : ℕ → Float) (l : List Float) → run at (n + m) g l ≡ run (at + n) m (λ j. g (n + j)) (run at n g l)
unfolding run
run-add at n zero g l = rw add-zero
run-add at n (suc m) g l = rw (add-suc, run-add at n m g l, add_assoc)

-- ---- grids

-- a grid of no row, and of one more
pub grid_none : (cols : ℕ) (e : ℕ → ℕ → Float) (l : List Float) → grid 0 cols e l ≡ l
unfolding grid
grid_none cols e l = refl

pub grid_more : (rows cols : ℕ) (e : ℕ → ℕ → Float) (l : List Float) → grid (rows + 1) cols e l ≡ run (rows * cols) cols (e rows) (grid rows cols e l)
unfolding grid
grid_more rows cols e l = rw add-one

-- a grid keeps the length
pub length-grid : (rows cols : ℕ) (e : ℕ → ℕ → Float) (l : List Float) → length (grid rows cols e l) ≡ length l
unfolding grid
length-grid zero cols e l = refl
length-grid (suc r) cols e l = length_run (r * cols) cols (e r) (grid r cols e l) ∙ length-grid r cols e l

-- past the matrix the buffer is as it was
pub grid_past : (rows cols : ℕ) (e : ℕ → ℕ → Float) (l : List Float) (i : ℕ) → rows * cols ≤ i → get_or (grid rows cols e l) i nan ≡ get_or l i nan
unfolding grid
grid_past zero cols e l i h = refl
grid_past (suc r) cols e l i h =
    run_past (r * cols) cols (e r) (grid r cols e l) i (omega (arith, suc-mul r cols)) ∙ grid_past r cols e l i (omega (arith, suc-mul r cols))

-- within the matrix cell (r, j) is e r j
pub grid-cell : (rows cols : ℕ) (e : ℕ → ℕ → Float) (l : List Float) (r j : ℕ) → r < rows → j < cols → rows * cols ≤ length l → cell cols (grid rows cols e l) r j ≡ e r j
unfolding grid
grid-cell zero cols e l r j hr hj k = absurd (not-suc-le-zero hr)
grid-cell (suc n) cols e l r j hr hj k =
    ⊎_elim
    (λ q. ap (λ (i : ℕ). cell cols (grid (suc n) cols e l) i j) q ∙ run-cell (n * cols) cols (e n) (grid n cols e l) j hj (omega (arith, suc-mul n cols, length-grid n cols e l)) ∙ sym (ap (λ (i : ℕ). e i j) q))
    (λ lt. run_before (n * cols) cols (e n) (grid n cols e l) (r * cols + j) (inside n cols r j lt hj) ∙ grid-cell n cols e l r j lt hj (omega (arith, suc-mul n cols)))
    (eq-or-lt_of_le (le_of_suc-le-suc hr))

-- so is each number before rows·cols, by its row and its column
pub grid_at : (rows cols : ℕ) (e : ℕ → ℕ → Float) (l : List Float) (i : ℕ) → 0 < cols → i < rows * cols → rows * cols ≤ length l → get_or (grid rows cols e l) i nan ≡ e (i / cols) (i % cols)
grid_at rows cols e l i pos h fits =
    let at : cell cols (grid rows cols e l) (i / cols) (i % cols) ≡ e (i / cols) (i % cols) =
    grid-cell rows cols e l (i / cols) (i % cols) ((div-lt_iff_lt-mul pos).1 h) (mod-lt i pos) fits in
    rw div-add-mod' at at

-- a grid goes by the entries within the matrix alone
pub grid_ext : (rows cols : ℕ) (e f : ℕ → ℕ → Float) (l : List Float) → ((r j : ℕ) → r < rows → j < cols → e r j ≡ f r j) → grid rows cols e l ≡ grid rows cols f l
unfolding grid
grid_ext zero cols e f l h = refl
grid_ext (suc n) cols e f l h =
    rw (grid_ext n cols e f l (λ r j lt lj. h r j (omega arith) lj)) (run_ext (n * cols) cols (e n) (f n) (grid n cols f l) (λ j lj. h n j (omega arith) lj))

-- a matrix that is written over itself changes nothing
pub grid_self : (rows cols : ℕ) (l : List Float) → grid rows cols (cell cols l) l ≡ l
unfolding grid
grid_self zero cols l = refl
grid_self (suc n) cols l = rw (grid_self n cols l) (run_self (n * cols) cols l)

-- a matrix whose entries go by their place alone is one run
pub grid_flat : (rows cols : ℕ) (h : ℕ → Float) (l : List Float) → grid rows cols (λ r j. h (r * cols + j)) l ≡ run 0 (rows * cols) h l
unfolding grid run
grid_flat zero cols h l = rw zero-mul
grid_flat (suc n) cols h l = rw (grid_flat n cols h l, suc-mul, run-add 0 (n * cols) cols h l, zero-add)

-- ---- the grid as the one list with its length, its entries and its rest

-- a number is below another or not
pub below_or : (i n : ℕ) → (i < n) ⊎ (n ≤ i)
below_or i n = elim (dec_lt i n) [ yes h ↦ inl h | no h ↦ inr (omega arith) ]

-- a buffer with the length, the entries and the rest of a grid is that grid
pub grid_unique :
    (rows cols : ℕ) (e : ℕ → ℕ → Float) (l m : List Float) → 0 < cols → rows * cols ≤ length l → length m ≡ length l
    → ((r j : ℕ) → r < rows → j < cols → cell cols m r j ≡ e r j)
    → ((i : ℕ) → rows * cols ≤ i → get_or m i nan ≡ get_or l i nan)
    → m ≡ grid rows cols e l
grid_unique rows cols e l m pos fits len here past =
    ext_get_or nan m (grid rows cols e l) (len ∙ sym (length-grid rows cols e l)) (λ i lt.
    ⊎_elim
    (λ h.
    let r-in : i / cols < rows = (div-lt_iff_lt-mul pos).1 h in
    let j-in : i % cols < cols = mod-lt i pos in
    let at_both : cell cols m (i / cols) (i % cols) ≡ cell cols (grid rows cols e l) (i / cols) (i % cols) =
    here (i / cols) (i % cols) r-in j-in ∙ sym (grid-cell rows cols e l (i / cols) (i % cols) r-in j-in fits) in
    rw div-add-mod' at at_both)
    (λ h. past i h ∙ sym (grid_past rows cols e l i h))
    (below_or i (rows * cols)))

-- ---- one cell

-- the changed entry is v
pub with_same : (e : ℕ → ℕ → Float) (r j : ℕ) (v : Float) → with_cell e r j v r j ≡ v
with_same e r j v = simp (eq-eqb r r refl, eq-eqb j j refl)

-- entries of another row stay
pub with_row : (e : ℕ → ℕ → Float) (r j : ℕ) (v : Float) (r' j' : ℕ) → (r' ≡ r → ⊥) → with_cell e r j v r' j' ≡ e r' j'
with_row e r j v r' j' h = simp (ne_eqb r' r h)

-- entries of another column stay
pub with_col : (e : ℕ → ℕ → Float) (r j : ℕ) (v : Float) (r' j' : ℕ) → (j' ≡ j → ⊥) → with_cell e r j v r' j' ≡ e r' j'
with_col e r j v r' j' h = elim (ℕ_discrete r' r) [ yes p ↦ simp (eq-eqb r' r p, ne_eqb j' j h) | no q ↦ simp (ne_eqb r' r q) ]

-- two cells of one place are one cell
same_row : (w r j r' j' : ℕ) → j < w → j' < w → r' * w + j' ≡ r * w + j → r' ≡ r
same_row w r j r' j' hj hj' e =
    ⊎_elim
    (λ lt. absurd (omega (arith, inside r w r' j' lt hj')))
    (λ le. ⊎_elim (λ q. sym q) (λ lt. absurd (omega (arith, inside r' w r j lt hj))) (eq-or-lt_of_le le))
    (below_or r' r)

-- a number stored in a grid is an entry changed
pub grid-set :
    (rows cols : ℕ) (e : ℕ → ℕ → Float) (l : List Float) (r j : ℕ) (v : Float) → r < rows → j < cols → rows * cols ≤ length l
    → set (grid rows cols e l) (r * cols + j) v ≡ grid rows cols (with_cell e r j v) l
grid-set rows cols e l r j v hr hj fits =
    let g = grid rows cols e l in
    let at_in : r * cols + j < rows * cols = inside rows cols r j hr hj in
    let at_len : r * cols + j < length g = omega (arith, length-grid rows cols e l) in
    grid_unique rows cols (with_cell e r j v) l (set g (r * cols + j) v) (omega arith) fits (length-set g (r * cols + j) v ∙ length-grid rows cols e l)
    (λ r' j' hr' hj'.
    elim (ℕ_discrete (r' * cols + j') (r * cols + j)) [
      | yes p ↦
          let q : r' ≡ r = same_row cols r j r' j' hj hj' p in
          let s : j' ≡ j = omega (arith, ap (λ (x : ℕ). x * cols) q) in
          ap (λ (i : ℕ). get_or (set g (r * cols + j) v) i nan) p ∙ get_or-set_same g (r * cols + j) v nan at_len ∙ sym (rw (q, s) (with_same e r j v))
      | no n ↦
          get_or-set_other g (r * cols + j) (r' * cols + j') v nan n ∙ grid-cell rows cols e l r' j' hr' hj' fits
          ∙ sym (elim (ℕ_discrete r' r) [
            | yes q ↦ with_col e r j v r' j' (λ s. n (rw (q, s) refl))
            | no m ↦ with_row e r j v r' j' m
          ])
    ])
    (λ i past. get_or-set_other g (r * cols + j) i v nan (λ p. omega arith) ∙ grid_past rows cols e l i past)
