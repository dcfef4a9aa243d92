-- Which answer a card is given exactly when (R34): the first thing from the top that is wrong decides.
-- The tests are asked line by line, each line's form before what it says; the lines that are right are passed by, and the first that is not gives the answer.
-- Assumes nothing.
use mathlib.Core.Path.{◌≡◌, refl, sym, ap, ◌∙◌, subst}
use mathlib.Core.Bool.{Bool, true, false, cond, true≢false}
use mathlib.Core.List.{List, ◌∷◌}
use Prim.Native.Nat.{ℕ, zero, suc, ◌+◌, ◌-◌, ◌≤◌, ◌<◌}
use native.Mathlib.Nat.{zero-add, not-suc-le-zero, le_of_suc-le-suc}
use native.Mathlib.Omega.{arith}
use lib.Arith.{lt_of_le-ne}
use lib.Dec.{eqb}
use lib.ListN.{get_or}
use borrow.Author.Tests.{eqb-true, eqb-false, ne_eqb}
use Rattle.std.proofs.Common.{Ok, Err}
use Rattle.answers.specs.declared.Refusal.TheVariants.{Size, Short, Range, Pivot, Line, Edition, NotFinite}
use Rattle.answers.specs.Answers.{is_done, carried_by, Answer}
use Rattle.answers.specs.Tests.{after_tests}
use Rattle.answers.proofs.Asked.{stays}
use Rattle.card_text.specs.Lines.{ends}
use Rattle.card_text.specs.Card.{edition_key, card_answer}
use Rattle.card_text.specs.Spelling.{count_text, line}
use Rattle.card_text.specs.FirstBad.{good, taken, RightAbove, CardGiven, bad_line, other_edition, bad_states, bad_observations, right}
use Rattle.card_text.proofs.Spelt.{count_line_lem, count_of_lem}

-- ---- the tests, line by line

-- a test that says b decides whether the tests behind it are asked
one : (b : Bool) (v : Answer) (ws : List Answer) → is_done v ≡ false → after_tests (Ok tt) (cond b (Ok tt) v ∷ ws) ≡ cond b (after_tests (Ok tt) ws) v
one true v ws e = refl
one false v ws e = stays v ws e

-- what a line is refused with whose form is right, and which says what is not taken
abbrev refusal : ℕ → Answer
refusal zero = Ok tt
refusal (suc zero) = Err Edition
refusal (suc (suc zero)) = Err (Size 0)
refusal (suc (suc (suc k))) = Err (Size 1)

module _ (d : ℕ) (s : List ℕ) where
  -- the answer of i lines from line k on ..
  walk : ℕ → ℕ → Answer
  walk zero k = Ok tt
  walk (suc i) k = cond (good d s k) (cond (taken s k) (walk i (suc k)) (refusal k)) (Err (Line k))

  -- .. of eight lines from the first on, the eighth being what stands behind the seventh, is the card's
  is_walk : card_answer d s ≡ walk 8 1
  unfolding card_answer walk good taken
  is_walk = simp one

  -- above line 1 there is nothing to be wrong ..
  pub none_above : RightAbove d s 1
  unfolding good taken
  none_above zero l = (refl, refl)
  none_above (suc j) l = absurd (not-suc-le-zero (le_of_suc-le-suc l))

  -- .. and one more line is right
  pub next : (k : ℕ) → RightAbove d s k → good d s k ≡ true → taken s k ≡ true → RightAbove d s (suc k)
  next k above g t j l = at (eqb j k) refl
    where
      at : (y : Bool) → eqb j k ≡ y → (good d s j ≡ true) × (taken s j ≡ true)
      at true e = subst (λ (x : ℕ). (good d s x ≡ true) × (taken s x ≡ true)) (sym (eqb-true j k e)) (g, t)
      at false e = above j (lt_of_le-ne (le_of_suc-le-suc l) (eqb-false j k e))

  -- a line that is well formed and says what is not taken is one of the first three
  not_taken : (k : ℕ) → 1 ≤ k → RightAbove d s k → good d s k ≡ true → taken s k ≡ false → CardGiven d s (refusal k)
  unfolding taken
  not_taken zero l above g t = absurd (not-suc-le-zero l)
  not_taken (suc zero) l above g t = other_edition g t
  not_taken (suc (suc zero)) l above g t = bad_states above g t
  not_taken (suc (suc (suc zero))) l above g t = bad_observations above g t
  not_taken (suc (suc (suc (suc k)))) l above g t = absurd (true≢false t)

  -- from line k on, where the lines above it are right
  decide : (i k : ℕ) → 1 ≤ k → i + k ≡ 9 → RightAbove d s k → CardGiven d s (walk i k)
  unfolding walk
  decide zero k l e above = right (λ j b. above j (omega arith))
  decide (suc i) k l e above = at (good d s k) refl (taken s k) refl (decide i (suc k) (omega arith) (omega arith))
    where
      at : (x : Bool) → good d s k ≡ x → (y : Bool) → taken s k ≡ y → (RightAbove d s (suc k) → CardGiven d s (walk i (suc k))) → CardGiven d s (cond x (cond y (walk i (suc k)) (refusal k)) (Err (Line k)))
      at false g y t below = bad_line k l (omega arith) above g
      at true g false t below = not_taken k l above g t
      at true g true t below = below (next k above g t)

  -- lines that are right are passed by
  passed : (i r : ℕ) → RightAbove d s (suc i) → walk (i + r) 1 ≡ walk r (suc i)
  unfolding walk
  passed zero r h = ap (λ (x : ℕ). walk x 1) (zero-add r)
  passed (suc i) r h = ap (λ (x : ℕ). walk x 1) (over i r) ∙ passed i (suc r) (λ j l. h j (omega arith)) ∙ rw ((h (suc i) (omega arith)).0, (h (suc i) (omega arith)).1)
    where
      over : (i r : ℕ) → suc i + r ≡ i + suc r
      over i r = omega arith

  -- the answer where the first i lines are right
  from : (i r : ℕ) → i + r ≡ 8 → RightAbove d s (suc i) → card_answer d s ≡ walk r (suc i)
  from i r e h = is_walk ∙ ap (λ (x : ℕ). walk x 1) (sym e) ∙ passed i r h

  -- The answer is given for its reason ..
  pub given : CardGiven d s (card_answer d s)
  given = subst (λ (v : Answer). CardGiven d s v) (sym is_walk) (decide 8 1 (omega arith) refl none_above)

  -- .. and exactly then: what is given for its reason is the answer.
  pub given_only : (v : Answer) → CardGiven d s v → v ≡ card_answer d s
  unfolding walk
  given_only v (bad_line zero l h above g) = absurd (not-suc-le-zero l)
  given_only v (bad_line (suc k) l h above g) = sym (from k (suc (7 - k)) (omega arith) above ∙ rw g)
  given_only v (other_edition g t) = sym (is_walk ∙ rw (g, t))
  given_only v (bad_states above g t) = sym (from 1 7 refl above ∙ rw (g, t))
  given_only v (bad_observations above g t) = sym (from 2 6 refl above ∙ rw (g, t))
  given_only v (right above) = sym (from 8 0 refl above)

  -- ---- what each answer says of the card

  -- 2, 3, 4 and 9 are never given
  abbrev Says : Answer → Type 0
  Says (Ok tt) = RightAbove d s 9
  Says (Err (Size k)) = (k ≤ 1) × RightAbove d s (k + 2) × (good d s (k + 2) ≡ true) × (taken s (k + 2) ≡ false)
  Says (Err (Short k)) = ⊥
  Says (Err (Range k)) = ⊥
  Says (Err (Pivot k)) = ⊥
  Says (Err (Line k)) = (1 ≤ k) × (k ≤ 8) × (good d s k ≡ false) × RightAbove d s k
  Says (Err Edition) = (good d s 1 ≡ true) × (taken s 1 ≡ false)
  Says (Err NotFinite) = ⊥

  reason : (v : Answer) → CardGiven d s v → Says v
  reason v (bad_line k l h above g) = (l, h, g, above)
  reason v (other_edition g t) = (g, t)
  reason v (bad_states above g t) = (omega arith, above, g, t)
  reason v (bad_observations above g t) = (omega arith, above, g, t)
  reason v (right above) = above

  says : {v : Answer} → card_answer d s ≡ v → Says v
  says e = subst Says e (reason (card_answer d s) given)

  -- The line that is named is bad, and nothing is wrong above it.
  pub first_bad_named : {k : ℕ} → card_answer d s ≡ Err (Line k) → (1 ≤ k) × (k ≤ 8) × (good d s k ≡ false) × RightAbove d s k
  first_bad_named e = says e

  -- The size that is named is one of two, its line is well formed and says what is not taken, and nothing is wrong above it.
  pub size_named : {k : ℕ} → card_answer d s ≡ Err (Size k) → (k ≤ 1) × RightAbove d s (k + 2) × (good d s (k + 2) ≡ true) × (taken s (k + 2) ≡ false)
  size_named e = says e

  -- Where the edition is refused, its line is well formed and says another.
  pub edition_named : card_answer d s ≡ Err Edition → (good d s 1 ≡ true) × (taken s 1 ≡ false)
  edition_named e = says e

  -- Every line of a card that is done is right ..
  pub done_right : card_answer d s ≡ Ok tt → RightAbove d s 9
  done_right e = says e

  -- .. and a card of which every line is right is done.
  pub right_done : RightAbove d s 9 → card_answer d s ≡ Ok tt
  right_done above = sym (given_only (Ok tt) (right above))

  -- No answer carries more than 8.
  pub carried_small : get_or (carried_by (card_answer d s)) 0 0 ≤ 8
  carried_small = at (card_answer d s) (reason (card_answer d s) given)
    where
      at : (v : Answer) → Says v → get_or (carried_by v) 0 0 ≤ 8
      at (Ok tt) h = omega arith
      at (Err (Size k)) h = omega arith
      at (Err (Short k)) h = absurd h
      at (Err (Range k)) h = absurd h
      at (Err (Pivot k)) h = absurd h
      at (Err (Line k)) h = h.1
      at (Err Edition) h = omega arith
      at (Err NotFinite) h = absurd h

-- An edition of one or two digits other than 1 is answered with 6, whatever stands below line 1.
pub edition-alone : (d e : ℕ) (t : List ℕ) → e < 100 → (e ≡ 1 → ⊥) → card_answer d (line edition_key (count_text e) t) ≡ Err Edition
unfolding good taken ends
edition-alone d e t h other =
    let s = line edition_key (count_text e) t in
    sym (given_only d s (Err Edition) (other_edition (count_line_lem edition_key e t refl h) (rw (count_of_lem edition_key e t refl h) (ne_eqb e 1 other))))
