-- What may stand in a line of a card: a count, or entries (R34). Definitions only.
use Rattle.std.specs.Prelude.{Bool, true, false, ◌&&◌, List, [], ◌∷◌, ℕ, zero, suc, ◌+◌, ◌-◌, ◌*◌, eqb, ltb, length, get_or, take, drop}
use Rattle.lines.specs.Hex.{within, digit_of}

-- the text begins with these bytes
unfoldable pub begins : List ℕ → List ℕ → Bool
begins [] t = true
begins (b ∷ bs) [] = false
begins (b ∷ bs) (c ∷ t) = eqb b c && begins bs t

-- ---- counts

-- a count: one decimal digit (`0` is 48, `9` is 57), or two of which the first is not 0
unfoldable pub is_count : List ℕ → Bool
is_count [] = false
is_count (b ∷ []) = within 48 57 b
is_count (b ∷ c ∷ []) = within 49 57 b && within 48 57 c
is_count (b ∷ c ∷ e ∷ t) = false

-- the number that a count says
unfoldable pub number_in : List ℕ → ℕ
number_in [] = 0
number_in (b ∷ []) = b - 48
number_in (b ∷ c ∷ t) = (b - 48) * 10 + (c - 48)

-- ---- entries

-- the byte between two entries
abbrev pub comma : ℕ
comma = 44

-- every byte is a hexadecimal digit in lower case
unfoldable pub are_digits : List ℕ → Bool
are_digits [] = true
are_digits (b ∷ t) = ltb (digit_of b) 16 && are_digits t

-- the number that these digits spell behind a number n that was spelt before them
unfoldable pub spelt_from : ℕ → List ℕ → ℕ
spelt_from n [] = n
spelt_from n (b ∷ t) = spelt_from (n * 16 + digit_of b) t

-- an entry: exactly d digits
unfoldable pub is_entry : ℕ → List ℕ → Bool
unfolding are_digits
is_entry d e = eqb (length e) d && are_digits e

-- k entries of d digits with commas between: of several, d digits, a comma, and behind it the others; of one, the d digits and nothing else
unfoldable pub are_entries : ℕ → ℕ → List ℕ → Bool
unfolding is_entry
are_entries d zero v = false
are_entries d (suc zero) v = is_entry d v
are_entries d (suc (suc k)) v = is_entry d (take d v) && (eqb (get_or v d 0) comma && are_entries d (suc k) (drop (suc d) v))

-- the numbers that k entries say, the first at the front
unfoldable pub entries_in : ℕ → ℕ → List ℕ → List ℕ
unfolding spelt_from
entries_in d zero v = []
entries_in d (suc k) v = spelt_from 0 (take d v) ∷ entries_in d k (drop (suc d) v)
