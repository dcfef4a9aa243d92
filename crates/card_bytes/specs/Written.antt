-- The comparison of what writing a card says and leaves with what is expected of it. Definitions only.
use Rattle.std.specs.Prelude.{◌≡◌, cond, List, [], ℕ, ◌≤◌, ◌<◌, eqb, ltb, length, get_or, take}
use Rattle.lists.specs.declared.seen.Seen.{Seen}
use Rattle.lists.specs.Seen.{met_of, low_of}
use Rattle.card_bytes.specs.Lent.{lent_byte}
use Rattle.card_bytes.specs.Bytes.{bytes_met}

-- a number that was found, against the one that is expected
unfoldable pub number_met : Seen → ℕ → ℕ → ℕ → Seen
number_met o b want found = met_of (eqb want found) o o.next b 0 (low_of want) (low_of found)

-- the code, the length and the bytes l, where the text t is expected in front: 0, its length and the text; where it is longer than the bytes, 204 and every byte as it was lent
unfoldable pub written_met : Seen → List ℕ → ℕ → ℕ → List ℕ → Seen
written_met o t code len l =
    cond (ltb (length l) (length t))
    (bytes_met (number_met o 104 204 code) [] l (length l))
    (bytes_met (number_met (number_met o 104 0 code) 105 (length t) len) t l (length l))

-- ---- what it means that nothing differs

-- where the bytes are enough: 0, the length of the text, and the text in front of what was lent
pub record Written (t : List ℕ) (code len : ℕ) (l : List ℕ) : Type 0 where
  pub done : 0 ≡ code
  pub long : length t ≡ len
  pub front : take (length t) l ≡ t
  pub past : (i : ℕ) → length t ≤ i → i < length l → get_or l i 0 ≡ lent_byte i

-- where they are too few: 204, and every byte as it was lent
pub record Left (code : ℕ) (l : List ℕ) : Type 0 where
  pub refused : 204 ≡ code
  pub all : (i : ℕ) → i < length l → get_or l i 0 ≡ lent_byte i
