-- Where an update or a correction is done, the diagonal of the factor in S is finite and above zero, and so are its reciprocals, whatever was lent; and a diagonal entry of R that is NaN or infinite is refused with 4.
-- S is a sum, so its entries are values of the format, and not finite where R is not; the rest is the decomposition's. Assumes nothing.
use mathlib.Core.Path.{◌≡◌, refl, ap, ◌∙◌}
use mathlib.Core.Bool.{true, false}
use mathlib.Core.List.{List}
use Prim.Native.Nat.{ℕ, ◌*◌, ◌≤◌, ◌<◌}
use lib.Dec.{T}
use lib.ListN.{length}
use lib.Ieee.{Float, Format}
use lib.Ieee.Fits.{add-fits}
use lib.Ieee.Scale.{finite}
use lib.Ieee.Positive.{positive}
use Rattle.std.proofs.Common.{Ok, Err}
use Rattle.answers.specs.declared.Refusal.TheVariants.{Pivot}
use Rattle.answers.specs.Answers.{is_done, Answer}
use Rattle.numbers.specs.Reciprocal.{recip_of}
use Rattle.numbers.proofs.NotFinite.{plus_not_finite}
use Rattle.grids.specs.Grid.{cell}
use Rattle.grids.proofs.Grids.{grid-cell}
use Rattle.factors.proofs.Named.{named_before, done_reached}
use Rattle.factors.proofs.Diagonal.{pivot_refused, diagonal_both}
use Rattle.filters.specs.Correction.{factor_of}
use Rattle.filters.specs.Lent.{Buffers, correct_answer, update_answer}
use Rattle.filters.specs.Corrected.{pivots_answer, Renewed, Updated, Corrected, with_y, innovated}
use Rattle.filters.specs.Outcomes.{covariance}
use Rattle.filters.proofs.CorrectionFits.{update_fits, correct_fits}
use Rattle.filters.proofs.Exactly.{refused_by_pivots, all_passed, update_only_done, correct_only_done}

-- ---- an update past the gate, whose answer is g

module _ (f : Format) (n m : ℕ) (g v : Answer) (b e : Buffers) (r : Renewed f n m g v b e) (gate : is_done g ≡ true) where
  -- done: S holds the factor
  renewed-diagonal : m * m ≤ length b.S → v ≡ Ok tt → (i : ℕ) → i < m → T (positive (cell m e.S i i)) × T (positive (recip_of f (cell m e.S i i)))
  renewed-diagonal held done i h =
      let S = covariance f n m b in
      let left : cell m e.S i i ≡ factor_of f n m (cell n b.H) (cell n b.P) (cell m b.R) i i =
      ap (λ (l : List Float). cell m l i i) (rw gate at r.s_after) ∙ grid-cell m m _ b.S i i h h held in
      rw left (diagonal_both f m S (done_reached f m S (pivots_answer f n m b) refl (all_passed r done).1) (add-fits f _ _) i h)

  -- R is not finite at (i, i)
  renewed_refused : (i : ℕ) → i < m → finite (cell m b.R i i) ≡ false → (k : ℕ) × (k ≤ i) × (v ≡ Err (Pivot k))
  renewed_refused i h bad =
      let S = covariance f n m b in
      let w = named_before f m S (pivots_answer f n m b) refl i h (pivot_refused f S i (plus_not_finite f _ _ bad)) in
      (w.0, w.1, refused_by_pivots r gate w.0 w.2)

-- ---- the update

module _ (f : Format) (n m : ℕ) (b : Buffers) (v : Answer) (e : Buffers) (call : Updated f n m b v e) where
  -- Done, each diagonal entry of S is finite and above zero, and so is its reciprocal.
  pub update_diagonal : v ≡ Ok tt → (i : ℕ) → i < m → T (positive (cell m e.S i i)) × T (positive (recip_of f (cell m e.S i i)))
  update_diagonal done =
      let gate = (update_only_done f n m b v e call done).0 in
      renewed-diagonal f n m (update_answer n m b) v b e call.renewed gate (update_fits n m b gate).s_holds done

  -- Past refusals 1 and 2, a diagonal entry of R that is NaN or infinite is refused with 4, at its index or before it.
  pub update_not_finite_r : is_done (update_answer n m b) ≡ true → (i : ℕ) → i < m → finite (cell m b.R i i) ≡ false → (k : ℕ) × (k ≤ i) × (v ≡ Err (Pivot k))
  update_not_finite_r = renewed_refused f n m (update_answer n m b) v b e call.renewed

-- ---- the correction

module _ (f : Format) (n m : ℕ) (b : Buffers) (v : Answer) (e : Buffers) (call : Corrected f n m b v e) where
  -- The same for the correction.
  pub correct_diagonal : v ≡ Ok tt → (i : ℕ) → i < m → T (positive (cell m e.S i i)) × T (positive (recip_of f (cell m e.S i i)))
  correct_diagonal done =
      let gate = (correct_only_done f n m b v e call done).0 in
      renewed-diagonal f n m (correct_answer n m b) v (with_y b (innovated f n m b)) e call.renewed gate (correct_fits n m b gate).0.s_holds done

  pub correct_not_finite_r : is_done (correct_answer n m b) ≡ true → (i : ℕ) → i < m → finite (cell m b.R i i) ≡ false → (k : ℕ) × (k ≤ i) × (v ≡ Err (Pivot k))
  correct_not_finite_r = renewed_refused f n m (correct_answer n m b) v (with_y b (innovated f n m b)) e call.renewed
