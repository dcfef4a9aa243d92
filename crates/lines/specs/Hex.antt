-- Hexadecimal numbers in a list of bytes. Definitions only.
use Rattle.std.specs.Prelude.{Bool, true, false, ◌&&◌, cond, Option, None, Some, List, ℕ, zero, suc, ◌+◌, ◌-◌, ◌*◌, leb, eqb, get_or}
use Rattle.lines.specs.declared.words.Word.{Word}

-- b is one of the bytes from lo to hi
abbrev pub within : ℕ → ℕ → ℕ → Bool
within lo hi b = leb lo b && leb b hi

-- What a byte is worth as a digit: `0` to `9` (48 to 57) are worth 0 to 9, and `a` to `f` (97 to 102) are worth 10 to 15.
-- Any other byte is no digit, which 16 says.
unfoldable pub digit_of : ℕ → ℕ
digit_of b = cond (within 48 57 b) (b - 48) (cond (within 97 102 b) (b - 97 + 10) 16)

-- the digit at a position; past the end there is none, since `get_or` answers 0 there and 0 is no digit
abbrev pub digit_at : List ℕ → ℕ → ℕ
digit_at s at = digit_of (get_or s at 0)

-- nothing where the test holds, else what is read
abbrev pub unless : Bool → Option Word → Option Word
unless true r = None
unless false r = r

-- k digits more from a position on, behind a number n that was read before it: each digit makes the number 16 times as large and is added
unfoldable pub digits_from : ℕ → ℕ → List ℕ → ℕ → Option Word
digits_from zero n s at = Some (record { bits = n; next = at })
digits_from (suc k) n s at = unless (eqb (digit_at s at) 16) (digits_from k (n * 16 + digit_at s at) s (at + 1))

-- the number of eight digits that starts at a position, and the position after it
abbrev pub hex8_at : List ℕ → ℕ → Option Word
hex8_at s at = digits_from 8 0 s at
