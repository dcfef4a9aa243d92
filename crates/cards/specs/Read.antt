-- What the reader of cards promises (R6, R34): the answer, and every number of each lent buffer afterwards. Definitions only.
use Rattle.std.specs.Prelude.{◌≡◌, List, ℕ, ◌*◌, length, get_or, Float, Result, Ok, Err}
use Rattle.std.specs.Float.{Format}
use Rattle.std.specs.Float.Ieee.{of_bits}
use Rattle.answers.specs.declared.Refusal.{Refusal}
use Rattle.answers.specs.Answers.{settled, Answer}
use Rattle.grids.specs.Grid.{run}
use Rattle.card_text.specs.Card.{states_of, observations_of, read_answer, a_of, q_of, h_of, r_of}

-- what reading says of a card, by what the card is answered with: both sizes where that is done, and else why it is refused
abbrev pub told : Answer → List ℕ → Result (ℕ × ℕ) Refusal
told (Ok u) s = Ok (states_of s, observations_of s)
told (Err v) s = Err v

-- number i of a matrix whose entries have these patterns; any pattern of a NaN is a NaN
abbrev pub floats : Format → List ℕ → ℕ → Float
floats f es i = of_bits f (get_or es i 0)

-- the reading of the card s, with entries of d digits, into buffers that held a, q, h and r
pub record CardRead (f : Format) (d : ℕ) (s : List ℕ) (a q h r : List Float) (v : Result (ℕ × ℕ) Refusal) (a' q' h' r' : List Float) : Type 0 where
  pub answer : v ≡ told (read_answer d s (length a) (length q) (length h) (length r)) s
  pub a_after : a' ≡ settled (read_answer d s (length a) (length q) (length h) (length r)) (run 0 (states_of s * states_of s) (floats f (a_of d s)) a) a
  pub q_after : q' ≡ settled (read_answer d s (length a) (length q) (length h) (length r)) (run 0 (states_of s * states_of s) (floats f (q_of d s)) q) q
  pub h_after : h' ≡ settled (read_answer d s (length a) (length q) (length h) (length r)) (run 0 (observations_of s * states_of s) (floats f (h_of d s)) h) h
  pub r_after : r' ≡ settled (read_answer d s (length a) (length q) (length h) (length r)) (run 0 (observations_of s * observations_of s) (floats f (r_of d s)) r) r
