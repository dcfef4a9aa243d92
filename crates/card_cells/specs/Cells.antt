-- The comparison of a buffer with what a line expects. Definitions only.
use Rattle.std.specs.Prelude.{cond, ◌&&◌, List, ℕ, zero, suc, ltb, leb, length, get_or, Float}
use Rattle.std.specs.Float.{nan}
use Rattle.lines.specs.Pattern.{bits_of, same_bits}
use Rattle.lists.specs.declared.seen.Seen.{Seen}
use Rattle.lines.specs.Word.{lost}
use Rattle.lists.specs.Seen.{met_of, float_met, go_to}
use Rattle.card_cells.specs.Lent.{lent_bits}

-- the float x against the pattern that it was lent with
unfoldable pub kept_met : Seen → ℕ → ℕ → Float → Seen
kept_met o b i x = met_of (same_bits (bits_of x) (lent_bits b i)) o o.next b i (lent_bits b i) (bits_of x)

-- number i of a buffer: one of the first k against the next word, another against what it was lent with
unfoldable pub cell_met : List ℕ → Seen → ℕ → ℕ → ℕ → Float → Seen
cell_met s o b k i x = cond (ltb i k) (float_met s o b i x) (kept_met o b i x)

-- the first n numbers of a buffer, one after the other
unfoldable pub all_met : List ℕ → Seen → ℕ → ℕ → List Float → ℕ → Seen
all_met s o b k l zero = o
all_met s o b k l (suc n) = cell_met s (all_met s o b k l n) b k n (get_or l n nan)

-- all of them, at most 272; with more, or with more words than numbers, the line is lost
unfoldable pub cells_met : List ℕ → Seen → ℕ → ℕ → List Float → Seen
cells_met s o b k l = cond (leb (length l) 272 && leb k (length l)) (all_met s o b k l (length l)) (go_to lost.next o)
