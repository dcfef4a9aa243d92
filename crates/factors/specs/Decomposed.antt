-- What cholesky_decompose_lower promises (R6, R15): the answer, and every number of the buffer. Definitions only.
use Rattle.std.specs.Prelude.{◌≡◌, cond, List, ℕ, ltb, length, Float, Ok, Err}
use Rattle.std.specs.Float.{Format}
use Rattle.answers.specs.declared.Refusal.TheVariants.{Pivot}
use Rattle.answers.specs.Answers.{first_of, settled, Answer}
use Rattle.grids.specs.Grid.{cell, grid}
use Rattle.grids.specs.Cells.{square_answer}
use Rattle.factors.specs.Decomposition.{reached, decomposed}

-- refusal 4 of the pivot i, where i is below n; with every pivot taken i is n, and the answer is done
abbrev pub pivot_answer : ℕ → ℕ → Answer
pivot_answer i n = cond (ltb i n) (Err (Pivot i)) (Ok tt)

-- a call with the buffer t answers v and leaves t'
pub record Decomposed (f : Format) (n : ℕ) (t : List Float) (v : Answer) (t' : List Float) : Type 0 where
  pub answer : v ≡ first_of (square_answer n (length t)) (pivot_answer (reached f n (cell n t)) n)
  -- refusals 1 and 2 change nothing; 4 leaves what the decomposition leaves
  pub after : t' ≡ settled (square_answer n (length t)) (grid n n (decomposed f n (cell n t)) t) t
