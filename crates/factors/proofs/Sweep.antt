-- After the last column, or after a refusal: what the sweep over the columns leaves is the decomposition, once the upper triangle is cleared. Assumes nothing.
use mathlib.Core.Path.{◌≡◌, ap, ◌∙◌}
use mathlib.Core.List.{List}
use Prim.Native.Nat.{ℕ, ◌*◌, ◌<◌, ◌≤◌}
use borrow.Author.Tests.{lt-ltb, le-ltb}
use lib.ListN.{length}
use lib.Ieee.{Float, Format}
use Rattle.grids.specs.Grid.{grid, cell}
use Rattle.grids.proofs.Steps.{regrid}
use Rattle.factors.specs.Decomposition.{factor, reached, refused_at, lower, decomposed}
use Rattle.factors.specs.Steps.{swept}
use Rattle.factors.proofs.Triangle.{lower_local}

module _ (f : Format) (n : ℕ) (e : ℕ → ℕ → Float) where
  -- after a refusal at i
  pub swept_refused : (i : ℕ) → i < n → reached f n e ≡ i → swept f n e ≡ refused_at f e i
  swept_refused i h q = rw q (simp (lt-ltb i n h))

  -- after the last column
  pub swept-taken : (i : ℕ) → n ≤ i → reached f n e ≡ i → swept f n e ≡ factor f e n
  swept-taken i h q = rw q (simp (le-ltb i n h))

  -- a refusal at i is the end
  pub end_refused : (i : ℕ) → i < n → reached f n e ≡ i → swept f n e ≡ decomposed f n e
  end_refused i h q = rw q (simp (lt-ltb i n h))

  -- after the last column the upper triangle is still to be cleared
  pub end_taken : (i : ℕ) → n ≤ i → reached f n e ≡ i → lower (swept f n e) ≡ decomposed f n e
  end_taken i h q = rw q (simp (le-ltb i n h))

  -- every pivot is taken: the factor is left, cleared above the diagonal
  pub left_accepted : n ≤ reached f n e → decomposed f n e ≡ lower (factor f e n)
  left_accepted h = simp (le-ltb (reached f n e) n h)

-- the upper triangle is cleared after the last column
pub cleared :
    (f : Format) (n : ℕ) (l z z' : List Float) (i : ℕ) → n * n ≤ length l → n ≤ i → reached f n (cell n l) ≡ i
    → z ≡ grid n n (swept f n (cell n l)) l → z' ≡ grid n n (lower (cell n z)) z
    → z' ≡ grid n n (decomposed f n (cell n l)) l
cleared f n l z z' i fits h r q p =
    p ∙ regrid n lower (swept f n (cell n l)) l z fits (lower_local n) q
    ∙ ap (λ (g : ℕ → ℕ → Float). grid n n g l) (end_taken f n (cell n l) i h r)
