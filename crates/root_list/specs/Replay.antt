-- The counts over a whole list. Definitions only.
use Rattle.std.specs.Prelude.{Bool, true, false, List, ℕ, ◌+◌, ◌≤◌, ◌<◌, length}
use Rattle.lines.specs.Line.{LineEnd}
use Rattle.root_list.specs.declared.line.Line.{Line}
use Rattle.root_list.specs.declared.line.Line.TheVariants.{Comment, Pair, Bad}
use Rattle.root_list.specs.declared.tally.Tally.{Tally}
use Rattle.root_list.specs.Line.{line_of}
use Rattle.root_list.specs.Pattern.{agrees_of}

-- no line yet
abbrev pub none : Tally
none = record { compared = 0; differ = 0; bad = 0 }

-- a pair that agrees or not, counted
abbrev pub compare : Bool → Tally → Tally
compare true t = record { compared = t.compared + 1; differ = t.differ; bad = t.bad }
compare false t = record { compared = t.compared + 1; differ = t.differ + 1; bad = t.bad }

-- one line more: a comment counts for nothing, a pair is compared, and any other line is bad
abbrev pub count_of : Line → Tally → Tally
count_of Comment t = t
count_of (Pair arg want) t = compare (agrees_of arg want) t
count_of Bad t = record { compared = t.compared; differ = t.differ; bad = t.bad + 1 }

-- one difference more, for an input that may have been cut off
abbrev pub cut_off : Tally → Tally
cut_off t = record { compared = t.compared; differ = t.differ + 1; bad = t.bad }

-- t counts the lines of s up to a position, each line once and none passed over
pub data Upto (s : List ℕ) : ℕ → Tally → Type 0 where
  start : Upto s 0 none
  next : {at end : ℕ} {t : Tally} → Upto s at t → at < length s → LineEnd s at end → Upto s (end + 1) (count_of (line_of s at end) t)

-- each count can take one more
pub record Room (t : Tally) : Type 0 where
  pub compared : t.compared < 18446744073709551615
  pub differ : t.differ < 18446744073709551615
  pub bad : t.bad < 18446744073709551615

-- t counts all lines of s, and has room for one more
pub record Replayed (s : List ℕ) (t : Tally) : Type 0 where
  pub at : ℕ
  pub all : length s ≤ at
  pub counts : Upto s at t
  pub room : Room t
