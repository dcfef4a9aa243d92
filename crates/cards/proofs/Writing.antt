-- What the writing of a card is answered with, and what it leaves: a size that is refused stays so, else the room in the buffers decides, that of the bytes last. Assumes nothing.
use mathlib.Core.Path.{◌≡◌, sym, ap, ◌∙◌}
use mathlib.Core.Bool.{true}
use mathlib.Core.List.{List, [], ◌∷◌, ◌++◌}
use Prim.Native.Nat.{ℕ, ◌*◌, ◌≤◌}
use native.Mathlib.Nat.{zero-add}
use native.Mathlib.Omega.{arith}
use lib.ListN.{length, drop}
use lib.Seq.{sets, sets-eq}
use lib.Ieee.{Float, Format}
use Rattle.std.specs.Prelude.{Ok, Err}
use Rattle.answers.specs.declared.Refusal.{Refusal}
use Rattle.answers.specs.Answers.{is_done, first_of, Answer}
use Rattle.answers.specs.Tests.{lent, buffer_test, buffer_tests, after_tests}
use Rattle.answers.proofs.Fit.{fit}
use Rattle.card_text.specs.Card.{buffers}
use Rattle.card_text.specs.Spelling.{card_text, card_length}
use Rattle.card_text.specs.Said.{said}
use Rattle.card_text.proofs.Length.{text-length}
use Rattle.answers.proofs.Kept.{err_not_done}
use Rattle.card_text.proofs.Refused.{refusal_stays}
use Rattle.card_text.proofs.Said.{patterns-length}
use Rattle.cards.specs.Steps.{room_answer}
use Rattle.cards.specs.Written.{sizes_answer, write_answer, measured, in_front, CardWritten}
use Rattle.cards.proofs.Theorems.{measured_refused, measured-length}

-- both sizes are 1 to 16
pub sizes_fit : (n m : ℕ) → is_done (sizes_answer n m) ≡ true → (1 ≤ n) × (n ≤ 16) × (1 ≤ m) × (m ≤ 16)
unfolding sizes_answer
sizes_fit n m e = let s = (fit (n ∷ m ∷ []) [] [] e).0 in (s.0, s.1, s.2.0, s.2.1)

-- every size and every buffer is as it must be
pub record Fits (d n m la lq lh lr lb : ℕ) : Type 0 where
  pub states_least : 1 ≤ n
  pub states_most : n ≤ 16
  pub observations_least : 1 ≤ m
  pub observations_most : m ≤ 16
  pub a : n * n ≤ la
  pub q : n * n ≤ lq
  pub h : m * n ≤ lh
  pub r : m * m ≤ lr
  pub bytes : card_length d n m ≤ lb

module _ (d n m la lq lh lr lb : ℕ) where
  pub write_fits : is_done (write_answer d n m la lq lh lr lb) ≡ true → Fits d n m la lq lh lr lb
  unfolding write_answer
  write_fits e =
      let s = fit (n ∷ m ∷ []) (buffers n m la lq lh lr ++ (lent (card_length d n m) lb ∷ [])) [] e in
      record {
        states_least = s.0.0;
        states_most = s.0.1;
        observations_least = s.0.2.0;
        observations_most = s.0.2.1;
        a = s.1.0;
        q = s.1.1.0;
        h = s.1.1.1.0;
        r = s.1.1.1.1.0;
        bytes = s.1.1.1.1.1.0;
      }

  -- a size that is refused stays so
  pub sizes_decide : (u : Refusal) → Err u ≡ measured (sizes_answer n m) (card_length d n m) → write_answer d n m la lq lh lr lb ≡ Err u
  unfolding sizes_answer write_answer
  sizes_decide u e = ap (λ (v : Answer). after_tests v rest) (measured_refused (sizes_answer n m) u (card_length d n m) e) ∙ refusal_stays u rest
    where
      rest : List Answer
      rest = buffer_tests 0 (buffers n m la lq lh lr ++ (lent (card_length d n m) lb ∷ []))

  -- where both are taken the room decides, and last that of the bytes
  pub bytes_decide : (l : ℕ) (w x : Answer) → Ok l ≡ measured (sizes_answer n m) (card_length d n m) → w ≡ room_answer n m la lq lh lr → x ≡ first_of w (buffer_test 4 l lb) → x ≡ write_answer d n m la lq lh lr lb
  unfolding sizes_answer write_answer room_answer
  bytes_decide l w x e ew ex =
      let k = measured-length (sizes_answer n m) l (card_length d n m) e in
      ex
      ∙ ap (λ (c : ℕ). first_of w (buffer_test 4 c lb)) k.1
      ∙ ap (λ (v : Answer). first_of v (buffer_test 4 (card_length d n m) lb)) ew
      ∙ ap (λ (v : Answer). after_tests v (buffer_tests 0 (buffers n m la lq lh lr ++ (lent (card_length d n m) lb ∷ [])))) (sym k.0)

-- bytes that are put from the first position on stand in front
in_front_lem : (t b : List ℕ) → length t ≤ length b → sets b 0 t ≡ in_front t b
in_front_lem t b h = sets-eq t b 0 (omega arith) ∙ ap (λ (k : ℕ). t ++ drop k b) (zero-add (length t))

module _ (f : Format) (d n m : ℕ) (a q h r : List Float) (b : List ℕ) where
  -- refused: no byte is changed
  pub write_refused : (v : Refusal) → write_answer d n m (length a) (length q) (length h) (length r) (length b) ≡ Err v → CardWritten f d n m a q h r b (Err v) b
  write_refused v e = record { answer = rw e; bytes = rw (e, err_not_done v) }

  module _ (fits : Fits d n m (length a) (length q) (length h) (length r) (length b)) where
    -- the card has as many bytes as its sizes say
    pub said-length : length (card_text d (said f n m a q h r)) ≡ card_length d n m
    said-length =
        text-length d (said f n m a q h r) fits.states_least fits.observations_least (patterns-length f (n * n) a fits.a) (patterns-length f (n * n) q fits.q) (patterns-length f (m * n) h fits.h) (patterns-length f (m * m) r fits.r)

    -- written: its length, and the card in front
    pub write_done : (l : ℕ) (b' : List ℕ) → l ≡ card_length d n m → write_answer d n m (length a) (length q) (length h) (length r) (length b) ≡ Ok tt → b' ≡ sets b 0 (card_text d (said f n m a q h r)) → CardWritten f d n m a q h r b (Ok l) b'
    write_done l b' long e w = record { answer = rw (long, e); bytes = w ∙ in_front_lem (card_text d (said f n m a q h r)) b (omega (arith, said-length, fits.bytes)) ∙ rw e }
