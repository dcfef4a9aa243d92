-- Refusals 4 and 9 of the update and of the correction, exactly. Past 1 and 2 the call says 4 with the first pivot of S = H·P·Hᵀ + R that is not above zero or not finite; where there is none
-- it says 9 if some number of the new x or entry of the new P is not finite, and else it is done. The pivots' answer goes by the index that the decomposition of S reached, and the last test comes after it.
-- Assumes nothing.
use mathlib.Core.Path.{◌≡◌, refl, sym, ap, ◌∙◌}
use mathlib.Core.Bool.{Bool, true, false, cond, ◌&&◌}
use Prim.Native.Nat.{ℕ, ◌≤◌}
use native.Mathlib.Omega.{arith}
use lib.Dec.{ltb}
use lib.Ieee.{Format}
use Rattle.std.proofs.Common.{Ok, Err}
use Rattle.answers.specs.declared.Refusal.TheVariants.{Pivot, NotFinite}
use Rattle.answers.specs.Answers.{number_of, is_done, first_of, Answer}
use Rattle.answers.proofs.Kept.{is_done_lem}
use Rattle.answers.proofs.Asked.{goes_on}
use Rattle.numbers.specs.Finite.{all_finite, entries_finite}
use Rattle.factors.specs.Decomposition.{FirstRefused}
use Rattle.factors.proofs.Named.{first_done, names_first, named_first, done_where_taken, taken_where_done}
use Rattle.grids.specs.Grid.{cell}
use Rattle.filters.specs.Correction.{pivot_of}
use Rattle.filters.specs.Lent.{Buffers, correct_answer, update_answer}
use Rattle.filters.specs.Corrected.{next_x, next_p, pivots_answer, finite_answer, Renewed, Updated, Corrected, with_y, innovated}
use Rattle.filters.specs.Outcomes.{covariance, AllTaken, NextFinite, NextNotFinite}
use Rattle.filters.proofs.CorrectionFits.{update_at_most_3, correct_at_most_3}
use Rattle.filters.proofs.Verdict.{earlier, done_passed, nine_failed, finite_each, each_finite, some_not, not_some}

-- ---- an update with the gate's answer g

-- the pivots alone are told by 4 or by done
pivot_number : (f : Format) (n m : ℕ) (b : Buffers) → number_of (pivots_answer f n m b) ≤ 4
pivot_number f n m b = let i = pivot_of f n m (cell n b.H) (cell n b.P) (cell m b.R) in go (ltb i m) i
  where
    go : (t : Bool) (i : ℕ) → number_of (cond t (Err (Pivot i)) (Ok tt)) ≤ 4
    go true i = omega arith
    go false i = omega arith

module _ {f : Format} {n m : ℕ} {g v : Answer} {b e : Buffers} (r : Renewed f n m g v b e) where
  -- whether the new x and P are finite
  abbrev verdict : Bool
  verdict = all_finite n (next_x f n m b) && entries_finite n (next_p f n m b)

  -- past the gate the pivots decide, and then the last test
  pub past : is_done g ≡ true → v ≡ first_of (pivots_answer f n m b) (finite_answer n (next_x f n m b) (next_p f n m b))
  past d = r.answer ∙ ap (λ (u : Answer). first_of u (finite_answer n (next_x f n m b) (next_p f n m b))) (goes_on g (pivots_answer f n m b) d)

  -- a pivot that is refused is the answer
  pub refused_by_pivots : is_done g ≡ true → (i : ℕ) → pivots_answer f n m b ≡ Err (Pivot i) → v ≡ Err (Pivot i)
  refused_by_pivots d i q = past d ∙ ap (λ (u : Answer). first_of u (finite_answer n (next_x f n m b) (next_p f n m b))) q

  -- past the pivots the last test decides
  past_pivots : is_done g ≡ true → AllTaken f n m b → v ≡ finite_answer n (next_x f n m b) (next_p f n m b)
  past_pivots d all =
      past d
      ∙ ap (λ (u : Answer). first_of u (finite_answer n (next_x f n m b) (next_p f n m b))) (done_where_taken f m (covariance f n m b) (pivots_answer f n m b) refl all)

  -- where the gate and the pivots let it pass both were done
  both_done : is_done (first_of g (pivots_answer f n m b)) ≡ true → (is_done g ≡ true) × (pivots_answer f n m b ≡ Ok tt)
  both_done q =
      let d = first_done g (pivots_answer f n m b) (is_done_lem (first_of g (pivots_answer f n m b)) q) in
      (d, is_done_lem (pivots_answer f n m b) (ap is_done (sym (goes_on g (pivots_answer f n m b) d)) ∙ q))

  -- a refusal with 4, and what it names
  renewed_says_4 : is_done g ≡ true → (i : ℕ) → FirstRefused f m (covariance f n m b) i → v ≡ Err (Pivot i)
  renewed_says_4 d i h = refused_by_pivots d i (names_first f m (covariance f n m b) (pivots_answer f n m b) refl i h)

  pub told_by_pivots : is_done g ≡ true → (i : ℕ) → v ≡ Err (Pivot i) → v ≡ pivots_answer f n m b
  told_by_pivots d i q =
      let four : number_of v ≡ 4 = ap number_of q in
      earlier (pivots_answer f n m b) verdict v (past d) (omega arith) (omega arith)

  renewed_only_4 : is_done g ≡ true → (i : ℕ) → v ≡ Err (Pivot i) → FirstRefused f m (covariance f n m b) i
  renewed_only_4 d i q = named_first f m (covariance f n m b) v (told_by_pivots d i q) i q

  -- a refusal with 9
  renewed_says_9 : is_done g ≡ true → AllTaken f n m b → NextNotFinite f n m b → v ≡ Err NotFinite
  renewed_says_9 d all some = past_pivots d all ∙ rw (not_some n (next_x f n m b) (next_p f n m b) some) refl

  renewed_only_9 : number_of g ≤ 3 → v ≡ Err NotFinite → (is_done g ≡ true) × AllTaken f n m b × NextNotFinite f n m b
  renewed_only_9 h q =
      let w = nine_failed (first_of g (pivots_answer f n m b)) verdict v r.answer (small (is_done g) refl) q in
      let d = both_done w.0 in
      (d.0, taken_where_done f m (covariance f n m b) (pivots_answer f n m b) refl d.1, some_not n (next_x f n m b) (next_p f n m b) w.1)
    where
      small : (t : Bool) → is_done g ≡ t → number_of (cond t (pivots_answer f n m b) g) ≤ 8
      small true e = omega (arith, pivot_number f n m b)
      small false e = omega arith

  -- done
  renewed_says_done : is_done g ≡ true → AllTaken f n m b → NextFinite f n m b → v ≡ Ok tt
  renewed_says_done d all each = past_pivots d all ∙ rw (each_finite n (next_x f n m b) (next_p f n m b) each) refl

  -- done: the gate and the pivots were, and the last test was passed
  pub all_passed : v ≡ Ok tt → (is_done g ≡ true) × (pivots_answer f n m b ≡ Ok tt) × NextFinite f n m b
  all_passed q =
      let w = done_passed (first_of g (pivots_answer f n m b)) verdict v r.answer q in
      let d = both_done w.0 in
      (d.0, d.1, finite_each n (next_x f n m b) (next_p f n m b) w.1)

  renewed_only_done : v ≡ Ok tt → (is_done g ≡ true) × AllTaken f n m b × NextFinite f n m b
  renewed_only_done q = let w = all_passed q in (w.0, taken_where_done f m (covariance f n m b) (pivots_answer f n m b) refl w.1, w.2)

-- ---- the update

module _ (f : Format) (n m : ℕ) (b : Buffers) (v : Answer) (e : Buffers) (call : Updated f n m b v e) where
  -- Past refusals 1 and 2 it answers 4 with i where i is the index of the first pivot that is not above zero or not finite ..
  pub update_says_4 : is_done (update_answer n m b) ≡ true → (i : ℕ) → FirstRefused f m (covariance f n m b) i → v ≡ Err (Pivot i)
  update_says_4 = renewed_says_4 call.renewed

  -- .. and only there.
  pub update_only_4 : is_done (update_answer n m b) ≡ true → (i : ℕ) → v ≡ Err (Pivot i) → FirstRefused f m (covariance f n m b) i
  update_only_4 = renewed_only_4 call.renewed

  -- It answers 9 where it is past them, every pivot is taken, and some number of the new x or entry of the new P is not finite ..
  pub update_says_9 : is_done (update_answer n m b) ≡ true → AllTaken f n m b → NextNotFinite f n m b → v ≡ Err NotFinite
  update_says_9 = renewed_says_9 call.renewed

  -- .. and only there.
  pub update_only_9 : v ≡ Err NotFinite → (is_done (update_answer n m b) ≡ true) × AllTaken f n m b × NextNotFinite f n m b
  update_only_9 = renewed_only_9 call.renewed (update_at_most_3 n m b)

  -- It is done where it is past them, every pivot is above zero and finite, and so is all of the new x and P ..
  pub update_says_done : is_done (update_answer n m b) ≡ true → AllTaken f n m b → NextFinite f n m b → v ≡ Ok tt
  update_says_done = renewed_says_done call.renewed

  -- .. and only there.
  pub update_only_done : v ≡ Ok tt → (is_done (update_answer n m b) ≡ true) × AllTaken f n m b × NextFinite f n m b
  update_only_done = renewed_only_done call.renewed

-- ---- the correction: the new x and P are those of the update from the innovation

module _ (f : Format) (n m : ℕ) (b : Buffers) (v : Answer) (e : Buffers) (call : Corrected f n m b v e) where
  -- The same for the correction.
  pub correct_says_4 : is_done (correct_answer n m b) ≡ true → (i : ℕ) → FirstRefused f m (covariance f n m b) i → v ≡ Err (Pivot i)
  correct_says_4 = renewed_says_4 call.renewed

  pub correct_only_4 : is_done (correct_answer n m b) ≡ true → (i : ℕ) → v ≡ Err (Pivot i) → FirstRefused f m (covariance f n m b) i
  correct_only_4 = renewed_only_4 call.renewed

  pub correct_says_9 : is_done (correct_answer n m b) ≡ true → AllTaken f n m b → NextNotFinite f n m (with_y b (innovated f n m b)) → v ≡ Err NotFinite
  correct_says_9 = renewed_says_9 call.renewed

  pub correct_only_9 : v ≡ Err NotFinite → (is_done (correct_answer n m b) ≡ true) × AllTaken f n m b × NextNotFinite f n m (with_y b (innovated f n m b))
  correct_only_9 = renewed_only_9 call.renewed (correct_at_most_3 n m b)

  pub correct_says_done : is_done (correct_answer n m b) ≡ true → AllTaken f n m b → NextFinite f n m (with_y b (innovated f n m b)) → v ≡ Ok tt
  correct_says_done = renewed_says_done call.renewed

  pub correct_only_done : v ≡ Ok tt → (is_done (correct_answer n m b) ≡ true) × AllTaken f n m b × NextFinite f n m (with_y b (innovated f n m b))
  correct_only_done = renewed_only_done call.renewed
