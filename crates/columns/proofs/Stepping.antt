-- Column after column, until a pivot is refused: each step is the definition's, since the buffer holds the entries of the columns done. Assumes nothing.
use mathlib.Core.Path.{◌≡◌, sym, ap, ◌∙◌}
use mathlib.Core.Bool.{true, false}
use mathlib.Core.List.{List}
use Prim.Native.Nat.{ℕ, suc, ◌*◌, ◌<◌, ◌≤◌}
use lib.ListN.{length}
use lib.Ieee.{Float, Format, mul}
use Rattle.numbers.specs.Root.{sqrt_of}
use Rattle.numbers.specs.Reciprocal.{recip_of}
use Rattle.grids.specs.Grid.{grid, cell, with_cell}
use Rattle.grids.proofs.Grids.{grid-cell}
use Rattle.grids.proofs.Steps.{regrid, with_local}
use Rattle.factors.specs.Pivots.{pivot_taken}
use Rattle.factors.specs.Decomposition.{remains, below, factor, pivot_at, last_recip, refused_at}
use Rattle.factors.proofs.Below.{remains_local, below_local}
use Rattle.pivots.specs.declared.Pivot.{Pivot}
use Rattle.pivots.specs.declared.Pivot.TheVariants.{Accepted, Refused}
use Rattle.pivots.specs.Pivots.{pivot_of}
use Rattle.pivots.proofs.Cases.{accepted_is, refused_is}
use Rattle.columns.specs.Steps.{stored}

module _ (f : Format) (n : ℕ) (l : List Float) (i : ℕ) (hi : i < n) (fits : n * n ≤ length l) (z : List Float) (q : z ≡ grid n n (factor f (cell n l) i) l) where
  -- the pivot that the buffer gives is the definition's
  pivot_same : remains f (cell n z) i i ≡ pivot_at f (cell n l) i
  pivot_same =
      remains_local f n (cell n z) (factor f (cell n l) i) i i hi hi
      (λ r c hr hc. ap (λ (w : List Float). cell n w r c) q ∙ grid-cell n n (factor f (cell n l) i) l r c hr hc fits)

  -- a pivot that is taken: column i is done
  pub taken_more :
      (d x y : Float) (v : Pivot) (z' : List Float) → v ≡ pivot_of f (remains f (cell n z) i i) → z' ≡ grid n n (stored f (cell n z) i d v) z → v ≡ Accepted x y
      → (pivot_taken (pivot_at f (cell n l) i) ≡ true) × (y ≡ last_recip f (cell n l) (suc i)) × (z' ≡ grid n n (factor f (cell n l) (suc i)) l)
  unfolding factor last_recip
  taken_more d x y v z' p a w =
      let e = cell n l in
      let s = pivot_at f e i in
      let k = accepted_is (pivot_taken s) (sqrt_of f s) (recip_of f (sqrt_of f s)) s x y (ap (pivot_of f) (sym pivot_same) ∙ sym p ∙ w) in (
        k.0,
        k.2,
        a ∙ ap (λ (u : Pivot). grid n n (stored f (cell n z) i d u) z) w
            ∙ regrid n (λ g. below f (with_cell g i i x) i y) (factor f e i) l z fits
            (λ g h t. below_local f n i y hi (with_cell g i i x) (with_cell h i i x) (with_local n g h i i x t)) q
            ∙ ap (λ (u : Float). grid n n (below f (with_cell (factor f e i) i i u) i y) l) k.1
            ∙ ap (λ (u : Float). grid n n (below f (with_cell (factor f e i) i i (sqrt_of f s)) i u) l) k.2,
      )

  -- a pivot that is refused: its cell holds sum·d
  pub refused_here :
      (d x : Float) (v : Pivot) (z' : List Float) → v ≡ pivot_of f (remains f (cell n z) i i) → z' ≡ grid n n (stored f (cell n z) i d v) z → v ≡ Refused x
      → d ≡ last_recip f (cell n l) i
      → (pivot_taken (pivot_at f (cell n l) i) ≡ false) × (z' ≡ grid n n (refused_at f (cell n l) i) l)
  refused_here d x v z' p a w m =
      let e = cell n l in
      let s = pivot_at f e i in
      let k = refused_is (pivot_taken s) (sqrt_of f s) (recip_of f (sqrt_of f s)) s x (ap (pivot_of f) (sym pivot_same) ∙ sym p ∙ w) in (
        k.0,
        a ∙ ap (λ (u : Pivot). grid n n (stored f (cell n z) i d u) z) w
            ∙ regrid n (λ g. with_cell g i i (mul f x d)) (factor f e i) l z fits (λ g h t. with_local n g h i i (mul f x d) t) q
            ∙ ap (λ (u : Float). grid n n (with_cell (factor f e i) i i (mul f u d)) l) k.1
            ∙ ap (λ (u : Float). grid n n (with_cell (factor f e i) i i (mul f s u)) l) m,
      )
