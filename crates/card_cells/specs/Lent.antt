-- A buffer as it is lent to the reader of cards. Definitions only.
use Rattle.std.specs.Prelude.{◌≡◌, List, ℕ, zero, suc, ◌+◌, ◌*◌, ◌%◌, ◌≤◌, min, length, take, set, replicate, Float}
use Rattle.std.specs.Float.{binary32}
use Rattle.std.specs.Float.Ieee.{of_bits}
use Rattle.card_cells.specs.declared.lent.Lent.{Lent}

-- the pattern that number i of a buffer is lent with: another one for each number of the four
abbrev pub lent_bits : ℕ → ℕ → ℕ
lent_bits b i = 0x4b000000 + b % 4 * 512 + i % 512

-- the cells with the floats of the first n patterns in front
unfoldable pub marked : ℕ → ℕ → List Float → List Float
marked b zero l = l
marked b (suc n) l = set (marked b n l) n (of_bits binary32 (lent_bits b n))

-- 272 times +0
abbrev pub zeros : List Float
zeros = replicate 272 (of_bits binary32 0)

-- r is the buffer of that number with that many cells lent, at most 272, each with its pattern.
-- That the cells reach so far follows; it is said of the length, and of the numbers that are handed out.
abbrev pub Lends : Lent → ℕ → ℕ → Type 0
Lends r b len = (r.len ≤ length r.cells) × (r.len ≡ length (take r.len r.cells)) × (r ≡ record { cells = marked b (min len 272) zeros; len = min len 272 })
