-- The comparison of what came back with the words of a line. Definitions only.
use Rattle.std.specs.Prelude.{Bool, true, false, cond, ◌&&◌, List, [], ℕ, zero, suc, ◌+◌, eqb, ltb, leb, length, get_or, Float}
use Rattle.std.specs.Float.{nan}
use Rattle.answers.specs.Answers.{number_of, carried_by, Answer}
use Rattle.lines.specs.Pattern.{bits_of, same_bits}
use Rattle.lines.specs.Word.{word_at, lost}
use Rattle.lists.specs.declared.seen.Seen.{Seen}

-- nothing compared yet
abbrev pub nothing_at : ℕ → Seen
nothing_at at = record { next = at; numbers = 0; differ = 0; buffer = 0; index = 0; want = 0; found = 0 }

-- one more, up to the largest u64
abbrev pub one_up : ℕ → ℕ
one_up n = cond (ltb n 0xffffffffffffffff) (n + 1) n

-- the place of a difference is kept where it is the first
abbrev pub placed : Bool → Seen → ℕ → ℕ → ℕ → ℕ → ℕ → Seen
placed true o next b i want found = record { next = next; numbers = one_up o.numbers; differ = one_up o.differ; buffer = b; index = i; want = want; found = found }
placed false o next b i want found = record { next = next; numbers = one_up o.numbers; differ = one_up o.differ; buffer = o.buffer; index = o.index; want = o.want; found = o.found }

-- one number more, the same as the list's or not
abbrev pub met_of : Bool → Seen → ℕ → ℕ → ℕ → ℕ → ℕ → Seen
met_of true o next b i want found = record { next = next; numbers = one_up o.numbers; differ = o.differ; buffer = o.buffer; index = o.index; want = o.want; found = o.found }
met_of false o next b i want found = placed (eqb o.differ 0) o next b i want found

-- the float x against the next word: any NaN is the same as any other
unfoldable pub float_met : List ℕ → Seen → ℕ → ℕ → Float → Seen
float_met s o b i x =
    let w = word_at s o.next in
    met_of (same_bits (bits_of x) w.bits) o w.next b i w.bits (bits_of x)

-- n where it has 32 bits, else the largest number that has
abbrev pub low_of : ℕ → ℕ
low_of n = cond (ltb n 0x100000000) n 0xffffffff

-- the number n against the next word
unfoldable pub whole_met : List ℕ → Seen → ℕ → ℕ → ℕ → Seen
whole_met s o b i n =
    let w = word_at s o.next in
    met_of (eqb w.bits n) o w.next b i w.bits (low_of n)

-- the answer: its number, and what it carries
unfoldable pub answer_met : List ℕ → ℕ → Answer → Seen
answer_met s at v = whole_met s (whole_met s (nothing_at at) 100 0 (number_of v)) 100 1 (get_or (carried_by v) 0 0)

-- the value
unfoldable pub value_met : List ℕ → Seen → Float → Seen
value_met s o x = float_met s o 101 0 x

-- the first n cells, one after the other
unfoldable pub cells_met : List ℕ → Seen → ℕ → List Float → ℕ → Seen
cells_met s o b l zero = o
cells_met s o b l (suc n) = float_met s (cells_met s o b l n) b n (get_or l n nan)

-- the same with the next word elsewhere
abbrev pub go_to : ℕ → Seen → Seen
go_to next o = record { next = next; numbers = o.numbers; differ = o.differ; buffer = o.buffer; index = o.index; want = o.want; found = o.found }

-- a buffer: its length and its cells; with another length, or one above 304, the line is lost
unfoldable pub buffer_met : List ℕ → Seen → ℕ → List Float → Seen
buffer_met s o b l =
    let w = word_at s o.next in
    cond (eqb w.bits (length l) && leb (length l) 304) (cells_met s (go_to w.next o) b l (length l)) (go_to lost.next o)

-- the first n buffers, one after the other
unfoldable pub buffers_met : List ℕ → Seen → List (List Float) → ℕ → Seen
buffers_met s o l zero = o
buffers_met s o l (suc n) = buffer_met s (buffers_met s o l n) n (get_or l n [])
