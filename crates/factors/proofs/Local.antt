-- The decomposition of an n by n matrix goes by the entries within n by n alone: by induction on the columns, each of which reads and writes there. Assumes nothing.
use mathlib.Core.Path.{◌≡◌, refl, ap, ap₂, subst}
use mathlib.Core.Bool.{Bool, true, false, cond}
use Prim.Native.Nat.{ℕ, zero, suc, ◌≤◌, ◌<◌}
use native.Mathlib.Omega.{arith}
use borrow.Author.Tests.{ltb-true}
use lib.Dec.{ltb}
use lib.Ieee.{Float, Format, mul}
use Rattle.numbers.specs.Reciprocal.{recip_of}
use Rattle.numbers.specs.Root.{sqrt_of}
use Rattle.grids.specs.Grid.{with_cell, Same}
use Rattle.grids.proofs.Steps.{with_local}
use Rattle.factors.specs.Pivots.{pivot_taken}
use Rattle.factors.specs.Decomposition.{remains, column, factor, pivot_at, last_recip, reached, refused_at, lower, decomposed}
use Rattle.factors.proofs.Below.{remains_local, below_local}
use Rattle.factors.proofs.First.{first_ext}
use Rattle.factors.proofs.Triangle.{lower_local}

module _ (f : Format) (n : ℕ) (e g : ℕ → ℕ → Float) (same : Same n e g) where
  -- the columns done
  pub factor_local : (i : ℕ) → i ≤ n → Same n (factor f e i) (factor f g i)
  unfolding factor
  factor_local zero h = same
  factor_local (suc i) h =
      let s : Same n (factor f e i) (factor f g i) = factor_local i (omega arith) in
      let v = sqrt_of f (remains f (factor f e i) i i) in
      let q : v ≡ sqrt_of f (remains f (factor f g i) i i) = ap (sqrt_of f) (remains_local f n (factor f e i) (factor f g i) i i (omega arith) (omega arith) s) in
      subst (λ (w : Float). Same n (column f (factor f e i) i v) (column f (factor f g i) i w)) q
      (below_local f n i (recip_of f v) (omega arith) (with_cell (factor f e i) i i v) (with_cell (factor f g i) i i v) (with_local n (factor f e i) (factor f g i) i i v s))

  -- the pivots
  pub pivot_local : (i : ℕ) → i < n → pivot_at f e i ≡ pivot_at f g i
  pivot_local i h = remains_local f n (factor f e i) (factor f g i) i i h h (factor_local i (omega arith))

  -- the index of the first that is refused
  pub reached_local : reached f n e ≡ reached f n g
  reached_local = first_ext _ _ n (λ k h. ap pivot_taken (pivot_local k h))

  last_local : (i : ℕ) → i < n → last_recip f e i ≡ last_recip f g i
  unfolding last_recip
  last_local zero h = refl
  last_local (suc i) h = ap (λ (x : Float). recip_of f (sqrt_of f x)) (pivot_local i (omega arith))

  refused_local : (i : ℕ) → i < n → Same n (refused_at f e i) (refused_at f g i)
  refused_local i h =
      subst (λ (w : Float). Same n (refused_at f e i) (with_cell (factor f g i) i i w)) (ap₂ (mul f) (pivot_local i h) (last_local i h))
      (with_local n (factor f e i) (factor f g i) i i (mul f (pivot_at f e i) (last_recip f e i)) (factor_local i (omega arith)))

  at : (i : ℕ) (b : Bool) → ltb i n ≡ b → Same n (cond b (refused_at f e i) (lower (factor f e n))) (cond b (refused_at f g i) (lower (factor f g n)))
  at i true q = refused_local i (ltb-true i n q)
  at i false q = lower_local n (factor f e n) (factor f g n) (factor_local n (omega arith))

  -- what is left, accepted or refused
  pub decomposed_local : Same n (decomposed f n e) (decomposed f n g)
  decomposed_local =
      subst (λ (i : ℕ). Same n (decomposed f n e) (cond (ltb i n) (refused_at f g i) (lower (factor f g n)))) reached_local
      (at (reached f n e) (ltb (reached f n e) n) refl)
