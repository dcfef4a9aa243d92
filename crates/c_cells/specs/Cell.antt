-- What reading a cell into a lent number promises. Definitions only.
use Rattle.std.specs.Prelude.{◌≡◌, List, ℕ, length, Float}
use Rattle.answers.specs.Answers.{settled, Answer}
use Rattle.grids.specs.Grid.{cell}
use Rattle.grids.specs.Cells.{cell_answer}

-- get: the lent number is the cell (r, c) of the buffer m, and as lent where the call is refused
pub record GotInto (rows cols : ℕ) (m : List Float) (r c : ℕ) (x : Float) (v : Answer) (x' : Float) : Type 0 where
  pub answer : v ≡ cell_answer rows cols (length m) r c
  pub after : x' ≡ settled v (cell cols m r c) x
