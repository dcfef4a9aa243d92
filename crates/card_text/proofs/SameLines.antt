-- What stands below the first wrong line does not matter (R34): where the first k lines of two texts are the same, and the one is refused at line k, so is the other.
-- Whether a line is as it must be, and what it says, goes by that line and by the sizes above it. Assumes nothing.
use mathlib.Core.Path.{◌≡◌, refl, sym, ◌∙◌}
use mathlib.Core.Bool.{true, false}
use mathlib.Core.List.{List}
use Prim.Native.Nat.{ℕ, zero, suc, ◌+◌, ◌*◌, ◌≤◌}
use native.Mathlib.Omega.{arith}
use Rattle.std.proofs.Common.{Err}
use Rattle.answers.specs.declared.Refusal.TheVariants.{Size, Line, Edition}
use Rattle.card_text.specs.Lines.{behind_lines, SameLine, SameLines}
use Rattle.card_text.specs.Card.{edition_key, states_key, observations_key, a_key, q_key, h_key, r_key, count_line, count_of, entries_line, states_of, observations_of, card_answer}
use Rattle.card_text.specs.FirstBad.{good, taken, RightAbove, bad_line, other_edition, bad_states, bad_observations}
use Rattle.card_text.proofs.FirstBad.{given_only, first_bad_named, size_named, edition_named}

-- what a test of a line says goes by that line
module _ (key s t : List ℕ) (same : SameLine s t) where
  count_same : count_line key s ≡ count_line key t
  unfolding count_line
  count_same = rw (same.0, same.1)

  says_same : count_of key s ≡ count_of key t
  unfolding count_of
  says_same = rw same.1

  entries_same : (d k : ℕ) → entries_line d key k s ≡ entries_line d key k t
  unfolding entries_line
  entries_same d k = rw (same.0, same.1)

module _ (d : ℕ) (s t : List ℕ) where
  -- so do the sizes
  states : SameLines 2 s t → states_of s ≡ states_of t
  states same = says_same states_key (behind_lines 1 s) (behind_lines 1 t) (same 1 (omega arith))

  observations : SameLines 3 s t → observations_of s ≡ observations_of t
  observations same = says_same observations_key (behind_lines 2 s) (behind_lines 2 t) (same 2 (omega arith))

  fewer : (j k : ℕ) → j ≤ k → SameLines k s t → SameLines j s t
  fewer j k h same i l = same i (omega arith)

  -- whether line k is as it must be, and what it says is taken, goes by the lines down to it
  good_same : (k : ℕ) → k ≤ 7 → SameLines k s t → good d s k ≡ good d t k
  unfolding good behind_lines
  good_same zero h same = refl
  good_same (suc zero) h same = count_same edition_key s t (same 0 (omega arith))
  good_same (suc (suc zero)) h same = count_same states_key (behind_lines 1 s) (behind_lines 1 t) (same 1 (omega arith))
  good_same (suc (suc (suc zero))) h same = count_same observations_key (behind_lines 2 s) (behind_lines 2 t) (same 2 (omega arith))
  good_same (suc (suc (suc (suc zero)))) h same = rw (states (fewer 2 4 (omega arith) same)) (entries_same a_key (behind_lines 3 s) (behind_lines 3 t) (same 3 (omega arith)) d (states_of t * states_of t))
  good_same (suc (suc (suc (suc (suc zero))))) h same = rw (states (fewer 2 5 (omega arith) same)) (entries_same q_key (behind_lines 4 s) (behind_lines 4 t) (same 4 (omega arith)) d (states_of t * states_of t))
  good_same (suc (suc (suc (suc (suc (suc zero)))))) h same =
      rw (states (fewer 2 6 (omega arith) same), observations (fewer 3 6 (omega arith) same))
      (entries_same h_key (behind_lines 5 s) (behind_lines 5 t) (same 5 (omega arith)) d (observations_of t * states_of t))
  good_same (suc (suc (suc (suc (suc (suc (suc zero))))))) h same = rw (observations (fewer 3 7 (omega arith) same)) (entries_same r_key (behind_lines 6 s) (behind_lines 6 t) (same 6 (omega arith)) d (observations_of t * observations_of t))
  good_same (suc (suc (suc (suc (suc (suc (suc (suc k)))))))) h same = absurd (omega arith)

  taken_same : (k : ℕ) → SameLines k s t → taken s k ≡ taken t k
  unfolding taken behind_lines
  taken_same zero same = refl
  taken_same (suc zero) same = rw (says_same edition_key s t (same 0 (omega arith)))
  taken_same (suc (suc zero)) same = rw (states same)
  taken_same (suc (suc (suc zero))) same = rw (observations same)
  taken_same (suc (suc (suc (suc k)))) same = refl

  right_same : (k : ℕ) → k ≤ 7 → SameLines k s t → RightAbove d s k → RightAbove d t k
  right_same k h same above j l =
      let before = fewer j k (omega arith) same in
      (sym (good_same j (omega arith) before) ∙ (above j l).0, sym (taken_same j before) ∙ (above j l).1)

  -- A text with the same first k lines as one that is refused with 5 and line k is refused so too ..
  pub line-below : (k : ℕ) → k ≤ 7 → SameLines k s t → card_answer d s ≡ Err (Line k) → card_answer d t ≡ Err (Line k)
  line-below k h same e =
      let n = first_bad_named d s e in
      sym (given_only d t (Err (Line k)) (bad_line k n.0 n.1 (right_same k h same n.3) (sym (good_same k h same) ∙ n.2)))

  -- .. one with the same first line as one that is refused with 6, with 6 ..
  pub edition-below : SameLines 1 s t → card_answer d s ≡ Err Edition → card_answer d t ≡ Err Edition
  edition-below same e =
      let n = edition_named d s e in
      sym (given_only d t (Err Edition) (other_edition (sym (good_same 1 (omega arith) same) ∙ n.0) (sym (taken_same 1 same) ∙ n.1)))

  -- .. and one with the same lines down to the size that is refused with 1, with 1 of that size.
  pub size_below : (k : ℕ) → SameLines (k + 2) s t → card_answer d s ≡ Err (Size k) → card_answer d t ≡ Err (Size k)
  size_below k same e = at k same (size_named d s e)
    where
      at : (k : ℕ) → SameLines (k + 2) s t → (k ≤ 1) × RightAbove d s (k + 2) × (good d s (k + 2) ≡ true) × (taken s (k + 2) ≡ false) → card_answer d t ≡ Err (Size k)
      at zero same n = sym (given_only d t (Err (Size 0)) (bad_states (right_same 2 (omega arith) same n.1) (sym (good_same 2 (omega arith) same) ∙ n.2) (sym (taken_same 2 same) ∙ n.3)))
      at (suc zero) same n = sym (given_only d t (Err (Size 1)) (bad_observations (right_same 3 (omega arith) same n.1) (sym (good_same 3 (omega arith) same) ∙ n.2) (sym (taken_same 3 same) ∙ n.3)))
      at (suc (suc k)) same n = absurd (omega (arith, n.0))
