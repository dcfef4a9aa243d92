-- What writing a card into a lent buffer of bytes and a lent number promises, and what its length alone does. Definitions only.
use Rattle.std.specs.Prelude.{◌≡◌, List, ℕ, length, Float}
use Rattle.std.specs.Float.{Format}
use Rattle.answers.specs.Answers.{settled, Answer}
use Rattle.card_text.specs.Spelling.{card_length}
use Rattle.cards.specs.Written.{sizes_answer, write_answer, measured, CardWritten}

-- card_write of n states, m observations and four matrices, with entries of d digits: the bytes are as R35 says, and the lent number, l before, is the card's length, or as lent where the call is refused
pub record CardOut (f : Format) (d n m : ℕ) (a q h r : List Float) (b : List ℕ) (l : ℕ) (v : Answer) (b' : List ℕ) (l' : ℕ) : Type 0 where
  pub answer : v ≡ write_answer d n m (length a) (length q) (length h) (length r) (length b)
  pub bytes : CardWritten f d n m a q h r b (measured v (card_length d n m)) b'
  pub long : l' ≡ settled v (card_length d n m) l

-- card_length of n states and m observations: the lent number, l before, is how long their card is, or as lent where a size is refused
pub record LengthOut (d n m l : ℕ) (v : Answer) (l' : ℕ) : Type 0 where
  pub answer : v ≡ sizes_answer n m
  pub alone : l' ≡ settled v (card_length d n m) l
