-- What the sums and differences promise (R6, R13): an operation on each pair of entries. Definitions only.
use Rattle.std.specs.Prelude.{◌≡◌, ℕ, ◌*◌, List, [], ◌∷◌, length, Float}
use Rattle.answers.specs.Answers.{settled, Answer}
use Rattle.answers.specs.Tests.{lent, call_answer}
use Rattle.grids.specs.Grid.{cell, grid}
use Rattle.grids.specs.Cells.{pair_answer}

-- a, b and c of rows by cols
unfoldable pub triple_answer : ℕ → ℕ → ℕ → ℕ → ℕ → Answer
triple_answer rows cols la lb lc =
    call_answer (rows ∷ cols ∷ []) (lent (rows * cols) la ∷ lent (rows * cols) lb ∷ lent (rows * cols) lc ∷ []) []

-- entry (r, j): op of the entries of a and b there
abbrev pub entries : (Float → Float → Float) → ℕ → List Float → List Float → ℕ → ℕ → Float
entries op cols a b r j = op (cell cols a r j) (cell cols b r j)

-- sub stores a − b in c: op is the difference
pub record Combined (op : Float → Float → Float) (rows cols : ℕ) (a b c : List Float) (v : Answer) (c' : List Float) : Type 0 where
  pub answer : v ≡ triple_answer rows cols (length a) (length b) (length c)
  pub after : c' ≡ settled v (grid rows cols (entries op cols a b) c) c

-- The in-place ones store in d, which is a or b: sub_inplace_a and sub_inplace_b a − b, add_inplace_a and add_inplace_b a + b.
pub record InPlace (op : Float → Float → Float) (rows cols : ℕ) (a b d : List Float) (v : Answer) (d' : List Float) : Type 0 where
  pub answer : v ≡ pair_answer rows cols (length a) (length b)
  pub after : d' ≡ settled v (grid rows cols (entries op cols a b) d) d
