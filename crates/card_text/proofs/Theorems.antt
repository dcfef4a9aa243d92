-- A text is taken exactly where it is the card of some settings, and those are what it holds (R34): so settings have one card, and a card one meaning.
-- Line by line: what stands behind each line is known, the line itself is its spelling, and every line is right exactly where the card is done (FirstBad).
-- Assumes nothing.
use mathlib.Core.Path.{◌≡◌, refl, sym, ap, ap₂, ◌∙◌}
use mathlib.Core.Logic.{◌↔◌}
use mathlib.Core.Bool.{true, true≢false, and-eq-true_iff}
use mathlib.Core.List.{List, [], ◌∷◌}
use Prim.Native.Nat.{ℕ, ◌*◌, ◌≤◌, ◌<◌}
use native.Mathlib.Nat.{mul-pos}
use native.Mathlib.Omega.{arith}
use lib.Dec.{lit<}
use borrow.Author.Tests.{le-leb, leb-true, eqb-true}
use Rattle.std.proofs.Common.{Ok}
use Rattle.answers.specs.Tests.{size_taken}
use Rattle.card_text.specs.Lines.{ends, behind_line, behind_lines}
use Rattle.card_text.specs.Card.{edition_key, states_key, observations_key, a_key, q_key, h_key, r_key, count_of, states_of, observations_of, nothing, a_of, q_of, h_of, r_of, card_answer}
use Rattle.card_text.specs.Spelling.{count_text, entries_text, line, Settings, Sound, card_text, held}
use Rattle.card_text.specs.FirstBad.{good, taken, RightAbove}
use Rattle.card_text.proofs.Spelt.{count_behind, count_line_lem, count_of_lem, count_line_text, entries-behind, entries-line, entries_of_lem, entries_line_text, entries_line_patterns}
use Rattle.card_text.proofs.FirstBad.{none_above, next, done_right, right_done}

-- ---- the card of settings

module _ (d : ℕ) (c : Settings) where
  -- what the card has behind line 6, behind line 5, ..
  abbrev pub behind6 : List ℕ
  behind6 = line r_key (entries_text d c.r) []

  abbrev pub behind5 : List ℕ
  behind5 = line h_key (entries_text d c.h) behind6

  abbrev pub behind4 : List ℕ
  behind4 = line q_key (entries_text d c.q) behind5

  abbrev pub behind3 : List ℕ
  behind3 = line a_key (entries_text d c.a) behind4

  abbrev pub behind2 : List ℕ
  behind2 = line observations_key (count_text c.m) behind3

  abbrev pub behind1 : List ℕ
  behind1 = line states_key (count_text c.n) behind2

  abbrev s : List ℕ
  s = card_text d c

  -- .. is what stands there
  at1 : behind_lines 1 s ≡ behind1
  unfolding behind_lines card_text ends
  at1 = count_behind edition_key 1 behind1 refl

  at2 : behind_lines 2 s ≡ behind2
  unfolding behind_lines ends
  at2 = ap behind_line at1 ∙ count_behind states_key c.n behind2 refl

  at3 : behind_lines 3 s ≡ behind3
  unfolding behind_lines ends
  at3 = ap behind_line at2 ∙ count_behind observations_key c.m behind3 refl

  at4 : behind_lines 4 s ≡ behind4
  unfolding behind_lines ends
  at4 = ap behind_line at3 ∙ entries-behind d a_key c.a behind4 refl

  at5 : behind_lines 5 s ≡ behind5
  unfolding behind_lines ends
  at5 = ap behind_line at4 ∙ entries-behind d q_key c.q behind5 refl

  at6 : behind_lines 6 s ≡ behind6
  unfolding behind_lines ends
  at6 = ap behind_line at5 ∙ entries-behind d h_key c.h behind6 refl

  at7 : behind_lines 7 s ≡ []
  unfolding behind_lines ends
  at7 = ap behind_line at6 ∙ entries-behind d r_key c.r [] refl

  module _ (sound : Sound d c) where
    -- the sizes are counts, and the card says them
    n_small : c.n < 100
    n_small = omega (arith, sound.states_most)

    m_small : c.m < 100
    m_small = omega (arith, sound.observations_most)

    states : states_of s ≡ c.n
    unfolding ends
    states = rw at1 (count_of_lem states_key c.n behind2 refl n_small)

    observations : observations_of s ≡ c.m
    unfolding ends
    observations = rw at2 (count_of_lem observations_key c.m behind3 refl m_small)

    -- there is an entry of each matrix
    some_a : 1 ≤ c.n * c.n
    some_a = mul-pos sound.states_least sound.states_least

    some_h : 1 ≤ c.m * c.n
    some_h = mul-pos sound.observations_least sound.states_least

    some_r : 1 ≤ c.m * c.m
    some_r = mul-pos sound.observations_least sound.observations_least

    -- each line is right, from the first on
    right1 : RightAbove d s 2
    unfolding good taken ends card_text
    right1 = next d s 1 (none_above d s) (count_line_lem edition_key 1 behind1 refl (lit< tt)) (rw (count_of_lem edition_key 1 behind1 refl (lit< tt)))

    right2 : RightAbove d s 3
    unfolding good taken ends
    right2 = next d s 2 right1 (rw at1 (count_line_lem states_key c.n behind2 refl n_small)) (rw (states, le-leb 1 c.n sound.states_least, le-leb c.n 16 sound.states_most))

    right3 : RightAbove d s 4
    unfolding good taken ends
    right3 = next d s 3 right2 (rw at2 (count_line_lem observations_key c.m behind3 refl m_small)) (rw (observations, le-leb 1 c.m sound.observations_least, le-leb c.m 16 sound.observations_most))

    right4 : RightAbove d s 5
    unfolding good taken ends
    right4 = next d s 4 right3 (rw (states, at3) (entries-line d a_key c.a behind4 refl (c.n * c.n) some_a sound.patterns_a)) refl

    right5 : RightAbove d s 6
    unfolding good taken ends
    right5 = next d s 5 right4 (rw (states, at4) (entries-line d q_key c.q behind5 refl (c.n * c.n) some_a sound.patterns_q)) refl

    right6 : RightAbove d s 7
    unfolding good taken ends
    right6 = next d s 6 right5 (rw (states, observations, at5) (entries-line d h_key c.h behind6 refl (c.m * c.n) some_h sound.patterns_h)) refl

    right7 : RightAbove d s 8
    unfolding good taken ends
    right7 = next d s 7 right6 (rw (observations, at6) (entries-line d r_key c.r [] refl (c.m * c.m) some_r sound.patterns_r)) refl

    right8 : RightAbove d s 9
    unfolding good taken
    right8 = next d s 8 right7 (rw at7) refl

    -- The card of settings is taken ..
    pub text-taken : card_answer d (card_text d c) ≡ Ok tt
    text-taken = right_done d s right8

    -- .. and holds the settings.
    pub text-held : held d (card_text d c) ≡ c
    unfolding ends
    text-held =
        λ i. record {
          n = states i;
          m = observations i;
          a = is_a i;
          q = is_q i;
          h = is_h i;
          r = is_r i;
        }
      where
        is_a : a_of d s ≡ c.a
        is_a = rw (states, at3) (entries_of_lem d a_key c.a behind4 refl (c.n * c.n) some_a sound.patterns_a)

        is_q : q_of d s ≡ c.q
        is_q = rw (states, at4) (entries_of_lem d q_key c.q behind5 refl (c.n * c.n) some_a sound.patterns_q)

        is_h : h_of d s ≡ c.h
        is_h = rw (states, observations, at5) (entries_of_lem d h_key c.h behind6 refl (c.m * c.n) some_h sound.patterns_h)

        is_r : r_of d s ≡ c.r
        is_r = rw (observations, at6) (entries_of_lem d r_key c.r [] refl (c.m * c.m) some_r sound.patterns_r)

-- ---- a text that is taken

-- what the last test and that of a size say
is_nothing : (t : List ℕ) → nothing t ≡ true → t ≡ []
is_nothing [] e = refl
is_nothing (b ∷ t) e = absurd (true≢false (sym e))

is_size : (n : ℕ) → size_taken n ≡ true → (1 ≤ n) × (n ≤ 16)
is_size n e = let both = (and-eq-true_iff _ _).0 e in (leb-true _ _ both.0, leb-true _ _ both.1)

module _ (d : ℕ) (t : List ℕ) (done : card_answer d t ≡ Ok tt) where
  -- line k is as it must be, and what it says is taken
  well : (k : ℕ) → k ≤ 8 → good d t k ≡ true
  well k h = (done_right d t done k (omega arith)).0

  accepted : (k : ℕ) → k ≤ 8 → taken t k ≡ true
  accepted k h = (done_right d t done k (omega arith)).1

  -- what stands behind line 7, behind line 6, .. is what the card of what it holds has there
  from7 : behind_lines 7 t ≡ []
  unfolding good
  from7 = is_nothing (behind_lines 7 t) (well 8 (omega arith))

  from6 : behind_lines 6 t ≡ behind6 d (held d t)
  unfolding good behind_lines
  from6 = entries_line_text d r_key (observations_of t * observations_of t) (behind_lines 6 t) (well 7 (omega arith)) ∙ ap (line r_key (entries_text d (r_of d t))) from7

  from5 : behind_lines 5 t ≡ behind5 d (held d t)
  unfolding good behind_lines
  from5 = entries_line_text d h_key (observations_of t * states_of t) (behind_lines 5 t) (well 6 (omega arith)) ∙ ap (line h_key (entries_text d (h_of d t))) from6

  from4 : behind_lines 4 t ≡ behind4 d (held d t)
  unfolding good behind_lines
  from4 = entries_line_text d q_key (states_of t * states_of t) (behind_lines 4 t) (well 5 (omega arith)) ∙ ap (line q_key (entries_text d (q_of d t))) from5

  from3 : behind_lines 3 t ≡ behind3 d (held d t)
  unfolding good behind_lines
  from3 = entries_line_text d a_key (states_of t * states_of t) (behind_lines 3 t) (well 4 (omega arith)) ∙ ap (line a_key (entries_text d (a_of d t))) from4

  from2 : behind_lines 2 t ≡ behind2 d (held d t)
  unfolding good behind_lines
  from2 = count_line_text observations_key (behind_lines 2 t) (well 3 (omega arith)) ∙ ap (line observations_key (count_text (observations_of t))) from3

  from1 : behind_lines 1 t ≡ behind1 d (held d t)
  unfolding good behind_lines
  from1 = count_line_text states_key (behind_lines 1 t) (well 2 (omega arith)) ∙ ap (line states_key (count_text (states_of t))) from2

  first-edition : count_of edition_key t ≡ 1
  unfolding taken
  first-edition = eqb-true (count_of edition_key t) 1 (accepted 1 (omega arith))

  -- A text that is taken is the card of what it holds ..
  pub taken-text : t ≡ card_text d (held d t)
  unfolding good behind_lines card_text
  taken-text = count_line_text edition_key t (well 1 (omega arith)) ∙ ap₂ (λ (e : ℕ) (u : List ℕ). line edition_key (count_text e) u) first-edition from1

  -- .. which is sound.
  pub taken_sound : Sound d (held d t)
  unfolding good taken
  taken_sound =
      let n = is_size (states_of t) (accepted 2 (omega arith)) in
      let m = is_size (observations_of t) (accepted 3 (omega arith)) in
      record {
        states_least = n.0;
        states_most = n.1;
        observations_least = m.0;
        observations_most = m.1;
        patterns_a = entries_line_patterns d a_key (states_of t * states_of t) (behind_lines 3 t) (well 4 (omega arith));
        patterns_q = entries_line_patterns d q_key (states_of t * states_of t) (behind_lines 4 t) (well 5 (omega arith));
        patterns_h = entries_line_patterns d h_key (observations_of t * states_of t) (behind_lines 5 t) (well 6 (omega arith));
        patterns_r = entries_line_patterns d r_key (observations_of t * observations_of t) (behind_lines 6 t) (well 7 (omega arith));
      }

-- ---- exactly

-- A text is taken exactly where it is the card of some sound settings.
pub taken_exactly : (d : ℕ) (t : List ℕ) → (card_answer d t ≡ Ok tt) ↔ ((c : Settings) × Sound d c × (t ≡ card_text d c))
taken_exactly d t = (λ done. (held d t, taken_sound d t done, taken-text d t done), λ f. ap (card_answer d) f.2 ∙ text-taken d f.0 f.1)

-- Two texts that are taken and hold the same are the same bytes.
pub one_spelling : (d : ℕ) (t u : List ℕ) → card_answer d t ≡ Ok tt → card_answer d u ≡ Ok tt → held d t ≡ held d u → t ≡ u
one_spelling d t u e f same = taken-text d t e ∙ ap (card_text d) same ∙ sym (taken-text d u f)

-- Sound settings with the same card are the same.
pub one_meaning : (d : ℕ) (c b : Settings) → Sound d c → Sound d b → card_text d c ≡ card_text d b → c ≡ b
one_meaning d c b e f same = sym (text-held d c e) ∙ ap (held d) same ∙ text-held d b f
