-- What the reader and then the writer leave is the report: four buffers of 256 numbers have room for any card, and 44 bytes and 1,024 entries for its text, so that nothing but the card itself is refused. Assumes nothing.
use mathlib.Core.Path.{◌≡◌, refl, sym, ap, ap₂, ◌∙◌, subst}
use mathlib.Core.Bool.{Bool, true, false, true≢false}
use mathlib.Core.List.{List, ◌++◌}
use Prim.Native.Nat.{ℕ, suc, ◌+◌, ◌*◌, ◌^◌, ◌≤◌}
use native.Mathlib.Nat.{zero-add}
use native.Mathlib.Omega.{arith}
use lib.ListN.{length, take, drop, take-append-drop}
use lib.Seq.{sets, sets-eq}
use lib.Ieee.{Float, Format, top}
use borrow.Author.Tests.{le-ltb}
use Rattle.std.specs.Prelude.{Result, Ok, Err}
use Rattle.answers.specs.declared.Refusal.{Refusal}
use Rattle.answers.specs.Answers.{is_done, Answer}
use Rattle.answers.proofs.Kept.{is_done_lem, err_not_done}
use Rattle.card_text.specs.Card.{states_of, observations_of, card_answer, read_answer}
use Rattle.card_text.specs.Spelling.{Sound, held, card_length}
use Rattle.card_text.proofs.Theorems.{taken_sound}
use Rattle.card_text.proofs.Length.{squares, length_at_most}
use Rattle.card_text.proofs.Buffers.{card-first, right_taken}
use Rattle.cards.specs.Read.{CardRead}
use Rattle.cards.specs.Written.{write_answer, CardWritten}
use Rattle.cards.proofs.Theorems.{told_refused, told_sizes, bytes_alone, measured_refused}
use Rattle.cards.proofs.RoundTrip.{written_again, past_written, as_long}
use Rattle.card_words.specs.Words.{words_of}
use Rattle.card_words.specs.Report.{report_of}
use Rattle.card_words.proofs.Wording.{told}
use Rattle.card_words.proofs.Theorems.{fault_told, card-told, card_as_long, report_at_most}

-- l bytes were put into the front of what was b, and they are the report on the text s
abbrev pub Reported : Format → ℕ → List ℕ → List ℕ → ℕ → List ℕ → Type 0
Reported f d s b l b' = (l ≤ 44 + 1024 * suc d) × ((l ≡ length (report_of f d s)) × (b' ≡ sets b 0 (report_of f d s)))

-- so it is where they are bytes t that the report is
reported : (f : Format) (d : ℕ) (s t b b' : List ℕ) (l : ℕ) → report_of f d s ≡ t → l ≡ length t → b' ≡ sets b 0 t → Reported f d s b l b'
reported f d s t b b' l e long is =
    let r = told t (report_of f d s) b b' l (sym e) long is in
    (omega (arith, r.0, report_at_most f d s), r)

-- bytes that stand in front were put there
put_in_front : (t b b' : List ℕ) (l : ℕ) → l ≡ length t → length t ≤ length b → take l b' ≡ t → drop l b' ≡ drop l b → b' ≡ sets b 0 t
put_in_front t b b' l long room front past =
    sym (take-append-drop l b')
    ∙ ap (λ (x : List ℕ). x ++ drop l b') front
    ∙ ap (λ (x : List ℕ). t ++ x) (past ∙ ap (λ (k : ℕ). drop k b) (long ∙ sym (zero-add (length t))))
    ∙ sym (sets-eq t b 0 (omega arith))

-- ---- there is room

module _ (d : ℕ) (s : List ℕ) (la lq lh lr : ℕ) (a-room : 256 ≤ la) (q_room : 256 ≤ lq) (h-room : 256 ≤ lh) (r-room : 256 ≤ lr) where
  module _ (done : card_answer d s ≡ Ok tt) where
    sound : Sound d (held d s)
    sound = taken_sound d s done

    few : (states_of s * states_of s ≤ 256) × (observations_of s * states_of s ≤ 256) × (observations_of s * observations_of s ≤ 256)
    few = squares (states_of s) (observations_of s) sound.states_most sound.observations_most

    read_done : read_answer d s la lq lh lr ≡ Ok tt
    read_done = right_taken d s la lq lh lr done (omega (arith, few)) (omega (arith, few)) (omega (arith, few)) (omega (arith, few))

    write_done : (lb : ℕ) → 44 + 1024 * suc d ≤ lb → write_answer d (states_of s) (observations_of s) la lq lh lr lb ≡ Ok tt
    write_done lb h =
        bytes_alone d (states_of s) (observations_of s) la lq lh lr lb sound.states_least sound.states_most sound.observations_least sound.observations_most (omega (arith, few)) (omega (arith, few)) (omega (arith, few)) (omega (arith, few))
        ∙ rw (le-ltb lb (card_length d (states_of s) (observations_of s)) (omega (arith, length_at_most d (states_of s) (observations_of s) sound.states_most sound.observations_most)))

  -- so the card decides
  card_decides : read_answer d s la lq lh lr ≡ card_answer d s
  card_decides = by (is_done (card_answer d s)) refl
    where
      by : (t : Bool) → is_done (card_answer d s) ≡ t → read_answer d s la lq lh lr ≡ card_answer d s
      by true e = let done = is_done_lem (card_answer d s) e in read_done done ∙ sym done
      by false e = card-first d s la lq lh lr e

-- ---- what is left

module _ (f : Format) (d : ℕ) (s : List ℕ) {a₀ q₀ h₀ r₀ a q h r : List Float} {v : Result (ℕ × ℕ) Refusal} (c : CardRead f d s a₀ q₀ h₀ r₀ v a q h r) (a-room : 256 ≤ length a₀) (q_room : 256 ≤ length q₀) (h-room : 256 ≤ length h₀) (r-room : 256 ≤ length r₀) where
  abbrev answer : Answer
  answer = read_answer d s (length a₀) (length q₀) (length h₀) (length r₀)

  decides : answer ≡ card_answer d s
  decides = card_decides d s (length a₀) (length q₀) (length h₀) (length r₀) a-room q_room h-room r-room

  -- The card was refused, and words for that were put.
  pub words_put : (u : Refusal) (b b' : List ℕ) (l : ℕ) → v ≡ Err u → l ≡ length (words_of (Err u)) → b' ≡ sets b 0 (words_of (Err u)) → Reported f d s b l b'
  words_put u b b' l e long is =
      let k = told_refused answer u s (sym e ∙ c.answer) in
      reported f d s (words_of (Err u)) b b' l (fault_told f d s (Err u) (sym decides ∙ k) (err_not_done u)) long is

  -- It was taken, and what was read was written.
  module _ (n m : ℕ) {b b' : List ℕ} {x : Result ℕ Refusal} (e : v ≡ Ok (n, m)) (w : CardWritten f d n m a q h r b x b') (b-room : 44 + 1024 * suc d ≤ length b) where
    read : CardRead f d s a₀ q₀ h₀ r₀ (Ok (n, m)) a q h r
    read = subst (λ (y : Result (ℕ × ℕ) Refusal). CardRead f d s a₀ q₀ h₀ r₀ y a q h r) e c

    sizes : (answer ≡ Ok tt) × (n ≡ states_of s) × (m ≡ observations_of s)
    sizes = told_sizes answer n m s read.answer

    done : card_answer d s ≡ Ok tt
    done = sym decides ∙ sizes.0

    pub card_put : (l : ℕ) → 16 ^ d ≡ 2 * top f → x ≡ Ok l → Reported f d s b l b'
    card_put l wide ex =
        let z = subst (λ (y : Result ℕ Refusal). CardWritten f d n m a q h r b y b') ex w in
        let long = as_long wide read z ∙ sym (card_as_long f d s done) in
        let told = card-told f d s done in
        (omega (arith, long, report_at_most f d s), (long, put_in_front (report_of f d s) b b' l long (omega (arith, report_at_most f d s)) (written_again wide read z ∙ sym told) (past_written z)))

    -- The writer refuses none that was read.
    pub not_refused : (u : Refusal) → x ≡ Err u → 256 ≤ length a → 256 ≤ length q → 256 ≤ length h → 256 ≤ length r → ⊥
    not_refused u ex la lq lh lr =
        true≢false
        (sym (ap is_done (ap₂ (λ (i j : ℕ). write_answer d i j (length a) (length q) (length h) (length r) (length b)) sizes.1 sizes.2 ∙ write_done d s (length a) (length q) (length h) (length r) la lq lh lr done (length b) b-room))
        ∙ ap is_done (measured_refused (write_answer d n m (length a) (length q) (length h) (length r) (length b)) u (card_length d n m) (sym ex ∙ w.answer))
        ∙ err_not_done u)
