-- Words of a list. Definitions only.
use Rattle.std.specs.Prelude.{Bool, true, false, Option, None, Some, List, ℕ, ◌+◌, eqb, get_or}
use Rattle.lines.specs.declared.words.Word.{Word}
use Rattle.lines.specs.Hex.{hex8_at}

-- no word: 0, and a position that no list reaches
abbrev pub lost : Word
lost = record { bits = 0; next = 0xffffffffffffffff }

-- the word whose digits were read
abbrev pub spelt : Option Word → Word
spelt (Some w) = w
spelt None = lost

-- a word where the first byte is a space
abbrev pub behind : Bool → Word → Word
behind true w = w
behind false w = lost

-- the word at a position: a space (32), then eight digits
abbrev pub word_at : List ℕ → ℕ → Word
word_at s at = behind (eqb (get_or s at 0) 32) (spelt (hex8_at s (at + 1)))
