-- Row after row of the buffer until a pivot is refused: what holds before each turn, that a turn keeps it, and what it says where the rows end. Assumes nothing.
use mathlib.Core.Path.{◌≡◌, sym, ap, subst, ◌∙◌}
use mathlib.Core.Bool.{Bool, true, false, cond}
use mathlib.Core.List.{List}
use Prim.Native.Nat.{ℕ, zero, suc, ◌+◌, ◌*◌, ◌<◌, ◌≤◌}
use native.Mathlib.Decide.{dec_lt}
use native.Mathlib.Numerals.{add-one}
use native.Mathlib.Omega.{arith}
use borrow.Author.Count.{below_more}
use borrow.Author.Tests.{lt-ltb, le-ltb}
use lib.ListN.{length, get_or}
use lib.Seq.{ext_get_or}
use lib.Ieee.{Float, Format, nan}
use Rattle.grids.specs.Grid.{grid, cell}
use Rattle.grids.proofs.Grids.{length-grid, grid-cell, grid_past, grid_ext, grid_unique}
use Rattle.factors.specs.Pivots.{pivot_taken}
use Rattle.factors.specs.Decomposition.{factor, pivot_at, reached, lower, decomposed}
use Rattle.factors.proofs.First.{first_is, first-none}
use Rattle.factors.proofs.Sweep.{left_accepted}
use Rattle.upper_rows.specs.Rows.{left, filled, RowAnew}
use Rattle.upper_rows.proofs.Upward.{Upward, left_pivot, upward_more}

-- rows 0 to i − 1 of the buffer z, that was l, are filled, and their pivots taken
pub record Rising (f : Format) (n : ℕ) (l z : List Float) (i : ℕ) : Type 0 where
  pub within : i ≤ n
  pub size : length z ≡ length l
  pub past : (k : ℕ) → n * n ≤ k → get_or z k nan ≡ get_or l k nan
  pub upward : Upward f n (cell n l) (cell n z) i
  pub taken : (k : ℕ) → k < i → pivot_taken (pivot_at f (cell n l) k) ≡ true

-- what a call that fills row i leaves, by whether it took the pivot
abbrev pub row_risen : Format → ℕ → List Float → ℕ → Bool → ℕ → Float
row_risen f n z i b c = cond b (filled f (cell n z) i c) (cell n z i c)

-- a grid in buffers of one length and one rest
grid-beside :
    (n : ℕ) (g : ℕ → ℕ → Float) (l z : List Float) → n * n ≤ length l → length z ≡ length l → ((k : ℕ) → n * n ≤ k → get_or z k nan ≡ get_or l k nan)
    → grid n n g z ≡ grid n n g l
unfolding grid
grid-beside zero g l z fits size past = ext_get_or nan z l size (λ k h. past k (omega arith))
grid-beside (suc m) g l z fits size past =
    let n = suc m in
    grid_unique n n g l (grid n n g z) (omega arith) fits (length-grid n n g z ∙ size)
    (λ r c hr hc. grid-cell n n g z r c hr hc (omega arith))
    (λ k h. grid_past n n g z k h ∙ past k h)

module _ {f : Format} {n : ℕ} {l z : List Float} {i : ℕ} (w : Rising f n l z i) where
  -- a row whose pivot is taken
  pub row_more :
      (b : Bool) (z' : List Float) → i < n → b ≡ true → b ≡ pivot_taken (left f (cell n z) i i) → RowAnew n i i (row_risen f n z i b) z z'
      → Rising f n l z' (i + 1)
  row_more b z' hi t p a = record {
    within = omega arith;
    size = a.size ∙ w.size;
    past = λ k h. a.past k h ∙ w.past k h;
    upward =
        rw add-one
        (upward_more w.upward (cell n z') hi
        (λ c h hc. a.row c h hc ∙ ap (λ (x : Bool). row_risen f n z i x c) t) a.others);
    taken = below_more _ _ w.taken (ap pivot_taken (sym (left_pivot w.upward hi)) ∙ sym p ∙ t);
  }

  -- a row whose pivot is refused: it is the first
  pub row_refused : (b : Bool) → i < n → b ≡ false → b ≡ pivot_taken (left f (cell n z) i i) → i ≡ reached f n (cell n l)
  row_refused b hi t p =
      sym (first_is (λ k. pivot_taken (pivot_at f (cell n l) k)) n i hi w.taken (ap pivot_taken (sym (left_pivot w.upward hi)) ∙ sym p ∙ t))

  -- after the last row every pivot is taken
  pub rows_end : n ≤ i → i ≡ reached f n (cell n l)
  rows_end h =
      let here : i ≡ n = omega (arith, w.within) in
      here ∙ sym (first-none (λ k. pivot_taken (pivot_at f (cell n l) k)) n (subst (λ (m : ℕ). (k : ℕ) → k < m → pivot_taken (pivot_at f (cell n l) k) ≡ true) here w.taken))

  -- and the upper triangle laid down is the factor
  pub laid-factor :
      (z' : List Float) → n * n ≤ length l → n ≤ i → z' ≡ grid n n (lower (λ r c. cell n z c r)) z → z' ≡ grid n n (decomposed f n (cell n l)) l
  laid-factor z' fits h q =
      let e = cell n l in
      let here : i ≡ n = omega (arith, w.within) in
      let up : Upward f n e (cell n z) n = subst (λ (m : ℕ). Upward f n e (cell n z) m) here w.upward in
      let all : n ≤ reached f n e = omega (arith, rows_end h) in
      q ∙ grid_ext n n _ (lower (factor f e n)) z
      (λ r c hr hc.
      elim (dec_lt r c) [
        | yes k ↦ simp (lt-ltb r c k)
        | no k ↦ simp (le-ltb r c (omega arith)) (up.done c r hc (omega arith) hr)
      ])
      ∙ grid-beside n (lower (factor f e n)) l z fits w.size w.past
      ∙ ap (λ (g : ℕ → ℕ → Float). grid n n g l) (sym (left_accepted f n e all))

  -- what lies past the matrix is as it was
  pub laid_past : (z' : List Float) (g : ℕ → ℕ → Float) → z' ≡ grid n n g z → (k : ℕ) → n * n ≤ k → get_or z' k nan ≡ get_or l k nan
  laid_past z' g q k h = ap (λ (x : List Float). get_or x k nan) q ∙ grid_past n n g z k h ∙ w.past k h
