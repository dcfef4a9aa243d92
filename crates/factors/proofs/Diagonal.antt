-- The diagonal of the factor: each entry is the root of its pivot, and where every pivot is taken it is finite and above zero, and so is its reciprocal. An entry of the matrix' diagonal that is not finite is not taken.
-- A later column leaves the diagonal alone; a pivot is an entry of the matrix or a rounded difference. Assumes nothing.
use mathlib.Core.Path.{◌≡◌, refl, sym, ap, subst, ◌∙◌}
use mathlib.Core.Bool.{false}
use Prim.Native.Nat.{ℕ, zero, suc, ◌≤◌, ◌<◌}
use native.Mathlib.Nat.{not-suc-le-zero}
use native.Mathlib.Decide.{ℕ_discrete}
use native.Mathlib.Omega.{arith}
use borrow.Author.Tests.{le-ltb}
use lib.Dec.{T}
use lib.Ieee.{Float, Format, fits}
use lib.Ieee.Fits.{sub-fits}
use lib.Ieee.Scale.{finite}
use lib.Ieee.Positive.{positive}
use Rattle.numbers.specs.Reciprocal.{recip_of}
use Rattle.numbers.specs.Root.{sqrt_of}
use Rattle.numbers.proofs.Reciprocals.{root_positive, recip_root_positive}
use Rattle.numbers.proofs.NotFinite.{not_finite_less}
use Rattle.grids.specs.Grid.{with_cell}
use Rattle.grids.proofs.Grids.{with_same, with_col}
use Rattle.factors.specs.Pivots.{pivot_taken}
use Rattle.factors.specs.Decomposition.{less_dot, column, factor, pivot_at, reached, decomposed}
use Rattle.factors.proofs.First.{first_all}
use Rattle.factors.proofs.Taken.{taken_positive, not_finite_refused}
use Rattle.factors.proofs.Below.{below_off, below_up}
use Rattle.factors.proofs.Sweep.{left_accepted}

-- ---- pivots

-- each pivot is a value of the format: the first is the first entry, and every other is a difference
pub pivot_fits : (f : Format) (e : ℕ → ℕ → Float) (i : ℕ) → T (fits f (e 0 0)) → T (fits f (pivot_at f e i))
unfolding less_dot factor
pivot_fits f e zero t = t
pivot_fits f e (suc i) t = sub-fits f _ _

-- another column than i leaves the entry (i, i) ..
column_off : (f : Format) (e : ℕ → ℕ → Float) (m : ℕ) (v : Float) (i : ℕ) → (i ≡ m → ⊥) → column f e m v i i ≡ e i i
column_off f e m v i q = below_off f (with_cell e m m v) m (recip_of f v) i i q ∙ with_col e m m v i i q

-- .. so those before i do
kept_until : (f : Format) (e : ℕ → ℕ → Float) (m i : ℕ) → m ≤ i → factor f e m i i ≡ e i i
unfolding factor
kept_until f e zero i h = refl
kept_until f e (suc m) i h = column_off f (factor f e m) m _ i (λ q. omega arith) ∙ kept_until f e m i (omega arith)

-- what is not finite stays so, however many products are taken off
less_not_finite : (f : Format) (s : Float) (x y : ℕ → Float) (n : ℕ) → finite s ≡ false → finite (less_dot f s x y n) ≡ false
unfolding less_dot
less_not_finite f s x y zero h = h
less_not_finite f s x y (suc n) h = not_finite_less f (less_dot f s x y n) _ (less_not_finite f s x y n h)

-- so the pivot of an entry that is not finite is not finite, and is not taken
pub pivot_refused : (f : Format) (e : ℕ → ℕ → Float) (i : ℕ) → finite (e i i) ≡ false → pivot_taken (pivot_at f e i) ≡ false
pivot_refused f e i h =
    let F = factor f e i in
    not_finite_refused (pivot_at f e i) (less_not_finite f (F i i) (F i) (F i) i (subst (λ (s : Float). finite s ≡ false) (sym (kept_until f e i i (omega arith))) h))

-- ---- the diagonal

-- the entry (i, i) with column i done is the root of pivot i, and the columns after it leave it
pub root_kept : (f : Format) (e : ℕ → ℕ → Float) (m i : ℕ) → i < m → factor f e m i i ≡ sqrt_of f (pivot_at f e i)
unfolding factor
root_kept f e zero i h = absurd (not-suc-le-zero h)
root_kept f e (suc m) i h =
    elim (ℕ_discrete i m) [
      | yes q ↦
          let F = factor f e m in
          let v = sqrt_of f (pivot_at f e m) in
          subst (λ (x : ℕ). column f F m v x x ≡ sqrt_of f (pivot_at f e x)) (sym q) (below_up f (with_cell F m m v) m (recip_of f v) m m (omega arith) ∙ with_same F m m v)
      | no q ↦ column_off f (factor f e m) m _ i q ∙ root_kept f e m i (omega arith)
    ]

-- every pivot taken, the entry (i, i) of what is left is that root ..
pub diagonal_is : (f : Format) (n : ℕ) (e : ℕ → ℕ → Float) → n ≤ reached f n e → (i : ℕ) → i < n → decomposed f n e i i ≡ sqrt_of f (pivot_at f e i)
diagonal_is f n e all i h = ap (λ (d : ℕ → ℕ → Float). d i i) (left_accepted f n e all) ∙ simp (le-ltb i i (omega arith)) (root_kept f e n i h)

-- .. finite and above zero, and so is its reciprocal
pub diagonal_both :
    (f : Format) (n : ℕ) (e : ℕ → ℕ → Float) → n ≤ reached f n e → T (fits f (e 0 0)) → (i : ℕ) → i < n
    → T (positive (decomposed f n e i i)) × T (positive (recip_of f (decomposed f n e i i)))
diagonal_both f n e all fit i h =
    let s = pivot_at f e i in
    let p = taken_positive s (first_all (λ k. pivot_taken (pivot_at f e k)) n all i h) in
    rw (diagonal_is f n e all i h) (root_positive f s p (pivot_fits f e i fit), recip_root_positive f s p (pivot_fits f e i fit))
