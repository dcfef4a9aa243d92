-- A card judged line by line: what a line's result tells of the card, and what the tests passed and failed so far make of its answer. Assumes nothing.
use mathlib.Core.Path.{◌≡◌, refl, sym, ap, ◌∙◌}
use mathlib.Core.Bool.{Bool, true, false, ◌&&◌, cond, true≢false}
use mathlib.Core.List.{List, [], ◌∷◌}
use Prim.Native.Nat.{ℕ, suc, ◌*◌, ◌≤◌}
use native.Mathlib.Omega.{arith}
use borrow.Author.Tests.{eq-eqb, ne_eqb, leb-true}
use lib.Dec.{eqb, leb}
use lib.ListN.{length}
use Rattle.std.specs.Prelude.{Option, Some, None, Ok, Err, ok_or, option_copied}
use Rattle.std.specs.Borrow.{Bor}
use Rattle.answers.specs.declared.Refusal.{Refusal}
use Rattle.answers.specs.declared.Refusal.TheVariants.{Size, Line, Edition}
use Rattle.answers.specs.Answers.{is_done, Answer}
use Rattle.answers.specs.Tests.{size_test, after_tests}
use Rattle.card_text.specs.Lines.{behind_line, behind_lines}
use Rattle.card_text.specs.Card.{edition_key, states_key, observations_key, a_key, q_key, h_key, r_key, count_line, count_of, entries_line, states_of, observations_of, nothing, line_test, matrix_tests, card_answer}
use Rattle.card_text.proofs.Refused.{refusal_stays}
use Rattle.card_lines.specs.Front.{with_rest, counted, found}
use Rattle.card_lines.proofs.Told.{not_counted, a_count, not_entries, are_entries}
use Rattle.card_verdicts.specs.Verdicts.{head_answer, matrices_answer, size_line_answer, IsSize}

-- what `ok_or` names where there is nothing
pub named : {T E : Type 0} (r : Option T) (w v : E) → Err v ≡ ok_or r w → v ≡ w
named None w v e = cc
named (Some x) w v e = absurd (cc)

-- ---- what stands behind a line

next_there : (s t u : List ℕ) (k : ℕ) → t ≡ behind_lines k s → u ≡ behind_line t → u ≡ behind_lines (suc k) s
unfolding behind_lines
next_there s t u k e h = h ∙ ap behind_line e

-- what a result tells of the card's line behind the k-th, which is the first of the text t
module _ (s t : List ℕ) (k : ℕ) (here : t ≡ behind_lines k s) (key : List ℕ) where
  pub count_wrong : (r : Option (ℕ × Bor (List ℕ))) → r ≡ None → with_rest r ≡ counted key t → count_line key (behind_lines k s) ≡ false
  count_wrong r n e = ap (count_line key) (sym here) ∙ not_counted key t (ap with_rest (sym n) ∙ e)

  pub count_right : (r : Option (ℕ × Bor (List ℕ))) (n : ℕ) (u : Bor (List ℕ)) → r ≡ Some (n, u) → with_rest r ≡ counted key t
      → (count_line key (behind_lines k s) ≡ true) × (n ≡ count_of key (behind_lines k s)) × (u.now ≡ behind_lines (suc k) s)
  count_right r n u i e =
      let a = a_count key t n u.now (ap with_rest (sym i) ∙ e) in
      (ap (count_line key) (sym here) ∙ a.0, a.1 ∙ ap (count_of key) here, next_there s t u.now k here a.2)

  pub size_right : (line which n : ℕ) (u : List ℕ) → IsSize key line which t n u
      → (size_line_answer key line which (behind_lines k s) ≡ Ok tt) × (n ≡ count_of key (behind_lines k s)) × (u ≡ behind_lines (suc k) s)
  size_right line which n u z =
      (ap (size_line_answer key line which) (sym here) ∙ z.done, z.size ∙ ap (count_of key) here, next_there s t u k here z.behind)

  pub entries_wrong : (d j : ℕ) (r : Option (Bor (List ℕ))) → r ≡ None → option_copied r ≡ found d key j t → entries_line d key j (behind_lines k s) ≡ false
  entries_wrong d j r n e = ap (entries_line d key j) (sym here) ∙ not_entries key t d j (ap option_copied (sym n) ∙ e)

  pub entries_right : (d j : ℕ) (r : Option (Bor (List ℕ))) (u : Bor (List ℕ)) → r ≡ Some u → option_copied r ≡ found d key j t
      → (entries_line d key j (behind_lines k s) ≡ true) × (u.now ≡ behind_lines (suc k) s)
  entries_right d j r u i e =
      let a = are_entries key t d j u.now (ap option_copied (sym i) ∙ e) in
      (ap (entries_line d key j) (sym here) ∙ a.0, next_there s t u.now k here a.1)

-- ---- lines 1 to 3

module _ (s : List ℕ) where
  pub line_1 : count_line edition_key s ≡ false → head_answer s ≡ Err (Line 1)
  unfolding head_answer
  line_1 h = rw h

  module _ (one : count_line edition_key s ≡ true) where
    pub other_edition : (e : ℕ) → e ≡ count_of edition_key s → (e ≡ 1 → ⊥) → head_answer s ≡ Err Edition
    unfolding head_answer
    other_edition e is h = rw (one, ne_eqb (count_of edition_key s) 1 (λ (q : count_of edition_key s ≡ 1). h (is ∙ q)))

    module _ (e : ℕ) (is : e ≡ count_of edition_key s) (first : e ≡ 1) where
      the_first : eqb (count_of edition_key s) 1 ≡ true
      the_first = eq-eqb (count_of edition_key s) 1 (sym is ∙ first)

      -- refused at the states
      pub states_refused : (v : Refusal) → size_line_answer states_key 2 0 (behind_lines 1 s) ≡ Err v → head_answer s ≡ Err v
      unfolding head_answer
      states_refused v h =
          rw (one, the_first)
          (ap (λ (u : Answer). after_tests u (line_test 3 (count_line observations_key (behind_lines 2 s)) ∷ size_test 1 (observations_of s) ∷ [])) h
          ∙ refusal_stays v (line_test 3 (count_line observations_key (behind_lines 2 s)) ∷ size_test 1 (observations_of s) ∷ []))

      -- the states are taken: what the observations are answered with
      pub observations_decide : (v : Answer) → size_line_answer states_key 2 0 (behind_lines 1 s) ≡ Ok tt → size_line_answer observations_key 3 1 (behind_lines 2 s) ≡ v → head_answer s ≡ v
      unfolding head_answer
      observations_decide v d h =
          rw (one, the_first)
          (ap (λ (u : Answer). after_tests u (line_test 3 (count_line observations_key (behind_lines 2 s)) ∷ size_test 1 (observations_of s) ∷ [])) d ∙ h)

-- ---- a line with a size

module _ (key t : List ℕ) (line which : ℕ) where
  pub size_line_wrong : count_line key t ≡ false → size_line_answer key line which t ≡ Err (Line line)
  size_line_wrong h = rw h

  pub size_line_says : (n : ℕ) (v : Answer) → count_line key t ≡ true → n ≡ count_of key t → v ≡ size_test which n → size_line_answer key line which t ≡ v
  size_line_says n v h e is = rw h (ap (size_test which) (sym e) ∙ sym is)

-- a size that is done is 1 to 16
pub size_range : (which n : ℕ) → is_done (size_test which n) ≡ true → (1 ≤ n) × (n ≤ 16)
size_range which n h = by (leb 1 n) (leb n 16) refl refl h
  where
    by : (y z : Bool) → leb 1 n ≡ y → leb n 16 ≡ z → is_done (cond (y && z) (Ok tt) (Err (Size which))) ≡ true → (1 ≤ n) × (n ≤ 16)
    by true true l m h = (leb-true 1 n l, leb-true n 16 m)
    by true false l m h = absurd (true≢false (sym h))
    by false z l m h = absurd (true≢false (sym h))

-- ---- lines 4 to 8

module _ (d n m : ℕ) (s : List ℕ) where
  pub line_4 : entries_line d a_key (n * n) (behind_lines 3 s) ≡ false → matrices_answer d n m s ≡ Err (Line 4)
  unfolding matrices_answer
  line_4 h = rw h

  module _ (a : entries_line d a_key (n * n) (behind_lines 3 s) ≡ true) where
    pub line_5 : entries_line d q_key (n * n) (behind_lines 4 s) ≡ false → matrices_answer d n m s ≡ Err (Line 5)
    unfolding matrices_answer
    line_5 h = rw (a, h)

    module _ (q : entries_line d q_key (n * n) (behind_lines 4 s) ≡ true) where
      pub line_6 : entries_line d h_key (m * n) (behind_lines 5 s) ≡ false → matrices_answer d n m s ≡ Err (Line 6)
      unfolding matrices_answer
      line_6 h = rw (a, q, h)

      module _ (h : entries_line d h_key (m * n) (behind_lines 5 s) ≡ true) where
        pub line_7 : entries_line d r_key (m * m) (behind_lines 6 s) ≡ false → matrices_answer d n m s ≡ Err (Line 7)
        unfolding matrices_answer
        line_7 r = rw (a, q, h, r)

        module _ (r : entries_line d r_key (m * m) (behind_lines 6 s) ≡ true) where
          pub behind_decides : (y : Bool) → nothing (behind_lines 7 s) ≡ y → matrices_answer d n m s ≡ line_test 8 y
          unfolding matrices_answer
          behind_decides y e = rw (a, q, h, r, e)

-- whether something stands behind the seventh line
pub nothing_is : (t : List ℕ) → nothing t ≡ eqb (length t) 0
nothing_is [] = refl
nothing_is (b ∷ t) = sym (ne_eqb (length (b ∷ t)) 0 (λ (e : length (b ∷ t) ≡ 0). omega arith))

-- ---- the whole card

module _ (d : ℕ) (s : List ℕ) where
  -- refused in its head
  pub head_refuses : (v : Refusal) → head_answer s ≡ Err v → card_answer d s ≡ Err v
  unfolding card_answer head_answer
  head_refuses v h = ap (λ (u : Answer). after_tests u rest) h ∙ refusal_stays v rest
    where
      rest : List Answer
      rest = matrix_tests d (states_of s) (observations_of s) s

  -- the matrices decide
  pub matrices_decide : (n m : ℕ) (v : Answer) → head_answer s ≡ Ok tt → n ≡ states_of s → m ≡ observations_of s → v ≡ matrices_answer d n m s → card_answer d s ≡ v
  unfolding card_answer head_answer matrices_answer
  matrices_decide n m v h en em e =
      ap (λ (u : Answer). after_tests u (matrix_tests d (states_of s) (observations_of s) s)) h
      ∙ sym (e ∙ ap (λ (x : ℕ). after_tests (Ok tt) (matrix_tests d x m s)) en ∙ ap (λ (x : ℕ). after_tests (Ok tt) (matrix_tests d (states_of s) x s)) em)
