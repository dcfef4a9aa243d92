-- What the reader's steps ask and find beside the card's own verdict: room in the buffers, and lines 4 to 7 as they must be. Definitions only.
use Rattle.std.specs.Prelude.{◌≡◌, true, List, ℕ, ◌*◌, Ok}
use Rattle.answers.specs.Answers.{Answer}
use Rattle.answers.specs.Tests.{buffer_tests, after_tests}
use Rattle.card_text.specs.Lines.{behind_lines}
use Rattle.card_text.specs.Card.{a_key, q_key, h_key, r_key, entries_line, buffers}

-- what the buffers of a card of n states and m observations are answered with
unfoldable pub room_answer : ℕ → ℕ → ℕ → ℕ → ℕ → ℕ → Answer
room_answer n m la lq lh lr = after_tests (Ok tt) (buffer_tests 0 (buffers n m la lq lh lr))

-- lines 4 to 7 of such a card, with which the text t begins, are as they must be
pub record Right (d n m : ℕ) (t : List ℕ) : Type 0 where
  pub a : entries_line d a_key (n * n) t ≡ true
  pub q : entries_line d q_key (n * n) (behind_lines 1 t) ≡ true
  pub h : entries_line d h_key (m * n) (behind_lines 2 t) ≡ true
  pub r : entries_line d r_key (m * m) (behind_lines 3 t) ≡ true
