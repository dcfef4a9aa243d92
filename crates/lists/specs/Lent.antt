-- A buffer as a line lends it. Definitions only.
use Rattle.std.specs.Prelude.{◌≡◌, Bool, true, false, cond, List, ℕ, zero, suc, ◌≤◌, ltb, length, take, set, replicate, Float}
use Rattle.std.specs.Float.{binary32}
use Rattle.std.specs.Float.Ieee.{of_bits}
use Rattle.lines.specs.Word.{word_at, lost}
use Rattle.lists.specs.declared.call.Lent.{Lent}

-- r is the buffer that a line has, and its length counts numbers at the start of its cells.
-- The second part follows from the first, and says it of the numbers that are handed out.
abbrev pub Lends : Lent → Lent → Type 0
Lends r has = (r.len ≤ length r.cells) × (r.len ≡ length (take r.len r.cells)) × (r ≡ has)

-- the position behind n words
unfoldable pub behind : List ℕ → ℕ → ℕ → ℕ
behind s at zero = at
behind s at (suc n) = (word_at s (behind s at n)).next

-- the cells with the floats of n words in front
unfoldable pub filled : List ℕ → ℕ → ℕ → List Float → List Float
filled s at zero l = l
filled s at (suc n) l = set (filled s at n l) n (of_bits binary32 (word_at s (behind s at n)).bits)

-- 304 times +0
abbrev pub zeros : List Float
zeros = replicate 304 (of_bits binary32 0)

-- no buffer
abbrev pub none_at : ℕ → Lent
none_at at = record { cells = zeros; len = 0; next = at }

-- the buffer of len numbers whose words begin at a position; with a length above 304 the line is lost
abbrev pub numbers_at : List ℕ → ℕ → ℕ → Lent
numbers_at s at len = cond (ltb 304 len) (none_at lost.next) (record { cells = filled s at len zeros; len = len; next = behind s at len })

-- the buffer at a position, where one is wanted: its length, and its numbers
unfoldable pub lent_at : List ℕ → ℕ → Bool → Lent
lent_at s at true = numbers_at s (word_at s at).next (word_at s at).bits
lent_at s at false = none_at at
