-- What is finite in x and P, before a correction or an update and after it. Done, every number of the new x and P is finite, whatever was lent; so was every number of x and P before, since what is not finite
-- stays so when something is added to it or taken from it. So a filter that is spoilt is refused, with 4 or 9, and so is a bad reading; and whatever a call answers, each number that was finite stays finite. Assumes nothing.
use mathlib.Core.Path.{◌≡◌, refl, sym, ap, subst, ◌∙◌}
use mathlib.Core.Logic.{◌⊎◌, inl, inr}
use mathlib.Core.Bool.{Bool, true, false, cond, true≢false}
use mathlib.Core.List.{List}
use Prim.Native.Nat.{ℕ, ◌*◌, ◌/◌, ◌%◌, ◌<◌, ◌≤◌}
use native.Mathlib.Nat.{zero-add, div-lt_iff_lt-mul, mod-lt}
use native.Mathlib.Decide.{dec_lt}
use native.Mathlib.Omega.{arith}
use lib.Dec.{ltb}
use lib.ListN.{length, get_or}
use lib.Ieee.{Float, Format, nan}
use lib.Ieee.Scale.{finite}
use Rattle.std.proofs.Common.{Ok, Err}
use Rattle.answers.specs.declared.Refusal.TheVariants.{Pivot, NotFinite}
use Rattle.answers.specs.Answers.{is_done, first_of, Answer}
use Rattle.answers.proofs.Kept.{is_done_lem}
use Rattle.numbers.specs.Sums.{products}
use Rattle.numbers.proofs.NotFinite.{not_finite_plus, plus_not_finite, not_finite_less, times_not_finite, first_not_finite}
use Rattle.grids.specs.Grid.{cell, run, grid}
use Rattle.grids.proofs.Grids.{run-cell, run_past, grid_at, grid_past}
use Rattle.entries.specs.Entries.{numbers}
use Rattle.entries.proofs.Written.{written, front-cell}
use Rattle.filters.specs.Correction.{innovation_of, pivot_of}
use Rattle.filters.specs.Lent.{Buffers, correct_answer, update_answer}
use Rattle.filters.specs.Corrected.{gain_in, next_x, next_p, finite_answer, Renewed, Updated, Corrected, with_y, innovated}
use Rattle.filters.specs.Outcomes.{NextNotFinite, HeldFinite, HeldNotFinite, StaysFinite}
use Rattle.filters.proofs.CorrectionFits.{update_fits, correct_fits}
use Rattle.filters.proofs.Verdict.{not_some}
use Rattle.filters.proofs.Exactly.{past, all_passed}

-- ---- on numbers

-- a test that can't fail holds
holds : (b : Bool) → (b ≡ false → ⊥) → b ≡ true
holds true h = refl
holds false h = absurd (h refl)

-- a buffer written from its front on: each number that was finite still is, where the new ones are
run_stays : (n : ℕ) (g : ℕ → Float) (l : List Float) → n ≤ length l → ((r : ℕ) → r < n → finite (g r) ≡ true) → StaysFinite l (run 0 n g l)
run_stays n g l fits each i h =
    elim (dec_lt i n) [
      | yes lt ↦ ap finite (ap (λ (j : ℕ). get_or (run 0 n g l) j nan) (sym (zero-add i)) ∙ run-cell 0 n g l i lt (omega arith)) ∙ each i lt
      | no ge ↦ ap finite (run_past 0 n g l i (omega arith)) ∙ h
    ]

grid_stays : (n : ℕ) (e : ℕ → ℕ → Float) (l : List Float) → 0 < n → n * n ≤ length l → ((r c : ℕ) → r < n → c < n → finite (e r c) ≡ true) → StaysFinite l (grid n n e l)
grid_stays n e l pos fits each i h =
    elim (dec_lt i (n * n)) [
      | yes lt ↦ ap finite (grid_at n n e l i pos lt fits) ∙ each (i / n) (i % n) ((div-lt_iff_lt-mul pos).1 lt) (mod-lt i pos)
      | no ge ↦ ap finite (grid_past n n e l i (omega arith)) ∙ h
    ]

-- ---- an update with the gate's answer g

module _ (f : Format) (n m : ℕ) (g v : Answer) (b e : Buffers) (r : Renewed f n m g v b e) where
  -- what a done update wrote
  wrote : v ≡ Ok tt → (e.x ≡ run 0 n (next_x f n m b) b.x) × (e.P ≡ grid n n (next_p f n m b) b.P)
  wrote q = let d = ap is_done q in (rw d at r.x_after, rw d at r.p_after)

  renewed_finite : n ≤ length b.x → n * n ≤ length b.P → v ≡ Ok tt → HeldFinite n e.x e.P
  renewed_finite hx hP q =
      let w = wrote q in
      let each = (all_passed r q).2 in (
        λ i hi. ap finite (front-cell n (next_x f n m b) b.x e.x i hi hx w.0) ∙ each.0 i hi,
        λ i j hi hj. ap finite (written n n (next_p f n m b) b.P e.P hP w.1 i j hi hj) ∙ each.1 i j hi hj,
      )

  -- the new x is x with something added, and the new P is P with something taken off
  renewed_was_finite : v ≡ Ok tt → HeldFinite n b.x b.P
  renewed_was_finite q =
      let each = (all_passed r q).2 in (
        λ i hi. holds (finite (numbers b.x i)) (λ bad. true≢false (sym (each.0 i hi) ∙ not_finite_plus f _ _ bad)),
        λ i j hi hj. holds (finite (cell n b.P i j)) (λ bad. true≢false (sym (each.1 i j hi hj) ∙ not_finite_less f _ _ bad)),
      )

  next_spoilt : HeldNotFinite n b.x b.P → NextNotFinite f n m b
  next_spoilt (inl w) = inl (w.0, w.1, not_finite_plus f _ _ w.2)
  next_spoilt (inr w) = inr (w.0, w.1, w.2, w.3, not_finite_less f _ _ w.4)

  -- each number of x gets a term of each number of y
  next_unheard : 1 ≤ n → (i : ℕ) → i < m → finite (numbers b.y i) ≡ false → NextNotFinite f n m b
  next_unheard some i h bad =
      inl (0, some, plus_not_finite f (numbers b.x 0) _ (first_not_finite f (products f (gain_in f n m b 0) (numbers b.y)) m i h (times_not_finite f (gain_in f n m b 0 i) (numbers b.y i) bad)))

  renewed_refused : is_done g ≡ true → NextNotFinite f n m b → ((k : ℕ) × (v ≡ Err (Pivot k))) ⊎ (v ≡ Err NotFinite)
  renewed_refused gate bad =
      let i = pivot_of f n m (cell n b.H) (cell n b.P) (cell m b.R) in
      go (ltb i m) i (past r gate)
    where
      go : (t : Bool) (i : ℕ) → v ≡ first_of (cond t (Err (Pivot i)) (Ok tt)) (finite_answer n (next_x f n m b) (next_p f n m b)) → ((k : ℕ) × (v ≡ Err (Pivot k))) ⊎ (v ≡ Err NotFinite)
      go true i q = inl (i, q)
      go false i q = inr (q ∙ rw (not_some n (next_x f n m b) (next_p f n m b) bad) refl)

  -- whatever it answers
  renewed_stays : (is_done g ≡ true → (1 ≤ n) × (n ≤ length b.x) × (n * n ≤ length b.P)) → StaysFinite b.x e.x × StaysFinite b.P e.P
  renewed_stays fits = go (is_done v) refl
    where
      go : (t : Bool) → is_done v ≡ t → StaysFinite b.x e.x × StaysFinite b.P e.P
      go false d = (
        subst (StaysFinite b.x) (sym (rw d at r.x_after)) (λ i h. h),
        subst (StaysFinite b.P) (sym (rw d at r.p_after)) (λ i h. h),
      )
      go true d =
          let q = is_done_lem v d in
          let w = wrote q in
          let p = all_passed r q in
          let h = fits p.0 in (
            subst (StaysFinite b.x) (sym w.0) (run_stays n (next_x f n m b) b.x h.1 p.2.0),
            subst (StaysFinite b.P) (sym w.1) (grid_stays n (next_p f n m b) b.P h.0 h.2 p.2.1),
          )

-- ---- the update

module _ (f : Format) (n m : ℕ) (b : Buffers) (v : Answer) (e : Buffers) (call : Updated f n m b v e) where
  -- Done, every number of x and every entry of P is finite, whatever was lent ..
  pub update_leaves_finite : v ≡ Ok tt → HeldFinite n e.x e.P
  update_leaves_finite q =
      let h = update_fits n m b (all_passed call.renewed q).0 in
      renewed_finite f n m (update_answer n m b) v b e call.renewed h.x_holds h.p_holds q

  -- .. and was before.
  pub update_found_finite : v ≡ Ok tt → HeldFinite n b.x b.P
  update_found_finite = renewed_was_finite f n m (update_answer n m b) v b e call.renewed

  -- Past refusals 1 and 2, an x or a P that is not finite is refused, with 4 or with 9.
  pub update_spoilt : is_done (update_answer n m b) ≡ true → HeldNotFinite n b.x b.P → ((k : ℕ) × (v ≡ Err (Pivot k))) ⊎ (v ≡ Err NotFinite)
  update_spoilt gate bad =
      let r = call.renewed in
      renewed_refused f n m (update_answer n m b) v b e r gate (next_spoilt f n m (update_answer n m b) v b e r bad)

  -- So is a y in which a number is NaN or infinite.
  pub update_bad_innovation : is_done (update_answer n m b) ≡ true → (i : ℕ) → i < m → finite (numbers b.y i) ≡ false → ((k : ℕ) × (v ≡ Err (Pivot k))) ⊎ (v ≡ Err NotFinite)
  update_bad_innovation gate i h bad =
      let r = call.renewed in
      renewed_refused f n m (update_answer n m b) v b e r gate (next_unheard f n m (update_answer n m b) v b e r (update_fits n m b gate).states i h bad)

  -- Whatever it answers, each number of the buffers x and P that was finite is finite.
  pub update_stays_finite : StaysFinite b.x e.x × StaysFinite b.P e.P
  update_stays_finite =
      renewed_stays f n m (update_answer n m b) v b e call.renewed
      (λ d. let h = update_fits n m b d in (h.states, h.x_holds, h.p_holds))

-- ---- the correction

module _ (f : Format) (n m : ℕ) (b : Buffers) (v : Answer) (e : Buffers) (call : Corrected f n m b v e) where
  abbrev given : Buffers
  given = with_y b (innovated f n m b)

  -- The same for the correction.
  pub correct_leaves_finite : v ≡ Ok tt → HeldFinite n e.x e.P
  correct_leaves_finite q =
      let h = (correct_fits n m b (all_passed call.renewed q).0).0 in
      renewed_finite f n m (correct_answer n m b) v given e call.renewed h.x_holds h.p_holds q

  pub correct_found_finite : v ≡ Ok tt → HeldFinite n b.x b.P
  correct_found_finite = renewed_was_finite f n m (correct_answer n m b) v given e call.renewed

  pub correct_spoilt : is_done (correct_answer n m b) ≡ true → HeldNotFinite n b.x b.P → ((k : ℕ) × (v ≡ Err (Pivot k))) ⊎ (v ≡ Err NotFinite)
  correct_spoilt gate bad =
      let r = call.renewed in
      renewed_refused f n m (correct_answer n m b) v given e r gate (next_spoilt f n m (correct_answer n m b) v given e r bad)

  -- A reading that is NaN or infinite, in whatever place, is refused, with 4 or with 9: what the estimate would give is taken from it.
  pub correct_bad_reading : is_done (correct_answer n m b) ≡ true → (i : ℕ) → i < m → finite (numbers b.z i) ≡ false → ((k : ℕ) × (v ≡ Err (Pivot k))) ⊎ (v ≡ Err NotFinite)
  correct_bad_reading gate i h bad =
      let r = call.renewed in
      let fits = (correct_fits n m b gate).0 in
      let y : numbers (innovated f n m b) i ≡ innovation_of f n (cell n b.H) (numbers b.x) (numbers b.z) i =
      front-cell m (innovation_of f n (cell n b.H) (numbers b.x) (numbers b.z)) b.y (innovated f n m b) i h fits.y_holds (rw gate refl) in
      renewed_refused f n m (correct_answer n m b) v given e r gate
      (next_unheard f n m (correct_answer n m b) v given e r fits.states i h (ap finite y ∙ not_finite_less f (numbers b.z i) _ bad))

  pub correct_stays_finite : StaysFinite b.x e.x × StaysFinite b.P e.P
  correct_stays_finite =
      renewed_stays f n m (correct_answer n m b) v given e call.renewed
      (λ d. let h = (correct_fits n m b d).0 in (h.states, h.x_holds, h.p_holds))
