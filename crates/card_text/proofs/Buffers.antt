-- The card comes before the buffers: what it is refused with stays, and only where it is right are they asked; with room for its matrices it is taken then. Assumes nothing.
use mathlib.Core.Path.{◌≡◌, refl, sym, ap, ◌∙◌}
use mathlib.Core.Bool.{Bool, true, false, true≢false}
use mathlib.Core.List.{List, []}
use Prim.Native.Nat.{ℕ, ◌*◌, ◌≤◌}
use borrow.Author.Tests.{le-ltb}
use Rattle.std.proofs.Common.{Ok}
use Rattle.answers.specs.Answers.{is_done, Answer}
use Rattle.answers.specs.Tests.{buffer_tests, after_tests, call_answer}
use Rattle.answers.proofs.Asked.{stays}
use Rattle.answers.proofs.Kept.{is_done_lem}
use Rattle.card_text.specs.Card.{states_of, observations_of, card_answer, buffers, read_answer}

-- buffers that have room for their matrices are not refused
buffers_hold : (n m la lq lh lr : ℕ) → n * n ≤ la → n * n ≤ lq → m * n ≤ lh → m * m ≤ lr → call_answer [] (buffers n m la lq lh lr) [] ≡ Ok tt
buffers_hold n m la lq lh lr a q h r = rw (le-ltb la (n * n) a, le-ltb lq (n * n) q, le-ltb lh (m * n) h, le-ltb lr (m * m) r)

module _ (d : ℕ) (s : List ℕ) (la lq lh lr : ℕ) where
  -- 1, 5 and 6 come before 2, whatever the buffers are
  pub card-first : is_done (card_answer d s) ≡ false → read_answer d s la lq lh lr ≡ card_answer d s
  unfolding read_answer
  card-first h = stays (card_answer d s) (buffer_tests 0 (buffers (states_of s) (observations_of s) la lq lh lr)) h

  -- a card that is right is answered as any call with these buffers
  pub then_buffers : card_answer d s ≡ Ok tt → read_answer d s la lq lh lr ≡ call_answer [] (buffers (states_of s) (observations_of s) la lq lh lr) []
  unfolding read_answer
  then_buffers h = ap (λ (v : Answer). after_tests v (buffer_tests 0 (buffers (states_of s) (observations_of s) la lq lh lr))) h

  -- where they have room for it, it is taken
  pub right_taken : card_answer d s ≡ Ok tt → states_of s * states_of s ≤ la → states_of s * states_of s ≤ lq → observations_of s * states_of s ≤ lh → observations_of s * observations_of s ≤ lr → read_answer d s la lq lh lr ≡ Ok tt
  right_taken done a q h r = then_buffers done ∙ buffers_hold (states_of s) (observations_of s) la lq lh lr a q h r

  -- and one that is taken is right
  pub taken_right : is_done (read_answer d s la lq lh lr) ≡ true → card_answer d s ≡ Ok tt
  taken_right taken = is_done_lem (card_answer d s) (by (is_done (card_answer d s)) refl)
    where
      by : (t : Bool) → is_done (card_answer d s) ≡ t → is_done (card_answer d s) ≡ true
      by true e = e
      by false e = absurd (true≢false (sym taken ∙ ap is_done (card-first e) ∙ e))
