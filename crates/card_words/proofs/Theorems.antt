-- What is reported of a text (R36): a card that is taken comes back, as long as it was, and the same where its only NaN is the one that is written; of another its first fault is told, and there are words for each.
-- No report is longer than the longest card. Over the format and the digits of an entry. Assumes nothing.
use mathlib.Core.Path.{◌≡◌, refl, sym, ap, ◌∙◌}
use mathlib.Core.Bool.{Bool, true, false}
use mathlib.Core.List.{List}
use Prim.Native.Nat.{ℕ, suc, ◌+◌, ◌*◌, ◌≤◌}
use native.Mathlib.Omega.{arith}
use lib.ListN.{length, length-map}
use lib.Ieee.{Format}
use Rattle.std.proofs.Common.{Ok}
use Rattle.answers.specs.Answers.{is_done, Answer}
use Rattle.answers.proofs.Kept.{is_done_lem}
use Rattle.card_text.specs.Card.{a_of, q_of, h_of, r_of, card_answer}
use Rattle.card_text.specs.Spelling.{card_text, held}
use Rattle.card_text.specs.Said.{said_again, OneNanOnly}
use Rattle.card_text.proofs.FirstBad.{given}
use Rattle.card_text.proofs.Theorems.{taken-text, taken_sound}
use Rattle.card_text.proofs.Length.{text-length, sound_length, text_at_most}
use Rattle.card_text.proofs.Said.{said_same}
use Rattle.card_words.specs.Words.{words_of}
use Rattle.card_words.specs.Report.{report_of}
use Rattle.card_words.proofs.Wording.{words_at_most, words_some}

module _ (f : Format) (d : ℕ) (s : List ℕ) where
  -- Of a card that is refused its first fault is told.
  pub fault_told : (v : Answer) → card_answer d s ≡ v → is_done v ≡ false → report_of f d s ≡ words_of v
  unfolding report_of
  fault_told v e r = rw (e, r)

  -- There are words for each.
  pub always_told : is_done (card_answer d s) ≡ false → 1 ≤ length (report_of f d s)
  always_told r = omega (arith, ap length (fault_told (card_answer d s) refl r), words_some d s (card_answer d s) (given d s) r)

  module _ (done : card_answer d s ≡ Ok tt) where
    -- One that is taken comes back as it is written again,
    pub card-told : report_of f d s ≡ card_text d (said_again f (held d s))
    unfolding report_of
    card-told = rw done

    -- as long as it was,
    pub card_as_long : length (report_of f d s) ≡ length s
    card_as_long =
        let c = taken_sound d s done in
        ap length card-told
        ∙ text-length d (said_again f (held d s)) c.states_least c.observations_least (length-map (a_of d s) _ ∙ c.patterns_a.0) (length-map (q_of d s) _ ∙ c.patterns_q.0) (length-map (h_of d s) _ ∙ c.patterns_h.0) (length-map (r_of d s) _ ∙ c.patterns_r.0)
        ∙ sym (ap length (taken-text d s done) ∙ sound_length d (held d s) c)

    -- and the same, byte by byte, where its only NaN is the one that is written.
    pub card_comes_back : OneNanOnly f (held d s) → report_of f d s ≡ s
    card_comes_back o = card-told ∙ ap (card_text d) (said_same f (held d s) o) ∙ sym (taken-text d s done)

  -- No report is longer than the longest card.
  pub report_at_most : length (report_of f d s) ≤ 44 + 1024 * suc d
  report_at_most = by (is_done (card_answer d s)) refl
    where
      by : (t : Bool) → is_done (card_answer d s) ≡ t → length (report_of f d s) ≤ 44 + 1024 * suc d
      by true e =
          let done = is_done_lem (card_answer d s) e in
          omega (arith, card_as_long done, ap length (taken-text d s done), text_at_most d (held d s) (taken_sound d s done))
      by false e = omega (arith, ap length (fault_told (card_answer d s) refl e), words_at_most (card_answer d s))
