-- The comparison of bytes with what is expected of them. Definitions only.
use Rattle.std.specs.Prelude.{cond, List, ℕ, zero, suc, eqb, ltb, length, get_or}
use Rattle.lists.specs.declared.seen.Seen.{Seen}
use Rattle.lists.specs.Seen.{met_of}
use Rattle.card_bytes.specs.Lent.{lent_byte}

-- what byte i must be: the text's and, behind it, what it was lent with
abbrev pub wanted_byte : List ℕ → ℕ → ℕ
wanted_byte t i = cond (ltb i (length t)) (get_or t i 0) (lent_byte i)

-- byte i, which is x, against that
unfoldable pub byte_met : Seen → List ℕ → ℕ → ℕ → Seen
byte_met o t i x = met_of (eqb (wanted_byte t i) x) o o.next 103 i (wanted_byte t i) x

-- the first n bytes, one after the other
unfoldable pub bytes_met : Seen → List ℕ → List ℕ → ℕ → Seen
bytes_met o t l zero = o
bytes_met o t l (suc n) = byte_met (bytes_met o t l n) t n (get_or l n 0)
