-- What the writer of cards promises (R6, R35): the answer, and every byte of the lent buffer afterwards. Definitions only.
use Rattle.std.specs.Prelude.{◌≡◌, List, [], ◌∷◌, ◌++◌, ℕ, length, drop, Float, Result, Ok, Err}
use Rattle.std.specs.Float.{Format}
use Rattle.answers.specs.declared.Refusal.{Refusal}
use Rattle.answers.specs.Answers.{settled, Answer}
use Rattle.answers.specs.Tests.{lent, call_answer}
use Rattle.card_text.specs.Card.{buffers}
use Rattle.card_text.specs.Spelling.{card_text, card_length}
use Rattle.card_text.specs.Said.{said}

-- what n states and m observations are answered with
unfoldable pub sizes_answer : ℕ → ℕ → Answer
sizes_answer n m = call_answer (n ∷ m ∷ []) [] []

-- what the sizes, then the buffers of the four matrices and last the buffer of bytes are answered with
unfoldable pub write_answer : ℕ → ℕ → ℕ → ℕ → ℕ → ℕ → ℕ → ℕ → Answer
write_answer d n m la lq lh lr lb = call_answer (n ∷ m ∷ []) (buffers n m la lq lh lr ++ (lent (card_length d n m) lb ∷ [])) []

-- what is said of a card of l bytes, by what it is answered with: its length where that is done, and else why it is refused
abbrev pub measured : Answer → ℕ → Result ℕ Refusal
measured (Ok u) l = Ok l
measured (Err v) l = Err v

-- the buffer b with the text t in front; what lies past the text is b's
abbrev pub in_front : List ℕ → List ℕ → List ℕ
in_front t b = t ++ drop (length t) b

-- the writing of the card of n states, m observations and the matrices a, q, h and r, with entries of d digits, into a buffer that held b
pub record CardWritten (f : Format) (d n m : ℕ) (a q h r : List Float) (b : List ℕ) (v : Result ℕ Refusal) (b' : List ℕ) : Type 0 where
  pub answer : v ≡ measured (write_answer d n m (length a) (length q) (length h) (length r) (length b)) (card_length d n m)
  pub bytes : b' ≡ settled (write_answer d n m (length a) (length q) (length h) (length r) (length b)) (in_front (card_text d (said f n m a q h r)) b) b
