-- What reading a card into lent buffers and two lent numbers promises. Definitions only.
use Rattle.std.specs.Prelude.{◌≡◌, List, ℕ, length, Float}
use Rattle.std.specs.Float.{Format}
use Rattle.answers.specs.Answers.{settled, Answer}
use Rattle.card_text.specs.Card.{states_of, observations_of, read_answer}
use Rattle.cards.specs.Read.{told, CardRead}

-- card_read of the card s, with entries of d digits: the buffers are as R34 says, and the two lent numbers, n and m before, are its sizes, or as lent where the call is refused
pub record CardInto (f : Format) (d : ℕ) (s : List ℕ) (a q h r : List Float) (n m : ℕ) (v : Answer) (a' q' h' r' : List Float) (n' m' : ℕ) : Type 0 where
  pub answer : v ≡ read_answer d s (length a) (length q) (length h) (length r)
  pub buffers : CardRead f d s a q h r (told v s) a' q' h' r'
  pub states : n' ≡ settled v (states_of s) n
  pub observations : m' ≡ settled v (observations_of s) m
