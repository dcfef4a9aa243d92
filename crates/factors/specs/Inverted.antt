-- What invert_l_cholesky promises (R6, R16): the answer, and every number of the destination. Definitions only.
use Rattle.std.specs.Prelude.{◌≡◌, List, [], ◌∷◌, ℕ, ◌*◌, length, Float}
use Rattle.std.specs.Float.{Format}
use Rattle.answers.specs.Answers.{settled, Answer}
use Rattle.answers.specs.Tests.{lent, call_answer}
use Rattle.grids.specs.Grid.{cell, grid}
use Rattle.factors.specs.Inverse.{inverse}

-- two n by n matrices
unfoldable pub squares_answer : ℕ → ℕ → ℕ → Answer
squares_answer n la lb = call_answer (n ∷ []) (lent (n * n) la ∷ lent (n * n) lb ∷ []) []

-- a call with the factor in l and the destination inv answers v and leaves inv'
pub record Inverted (f : Format) (n : ℕ) (l inv : List Float) (v : Answer) (inv' : List Float) : Type 0 where
  pub answer : v ≡ squares_answer n (length l) (length inv)
  pub after : inv' ≡ settled v (grid n n (inverse f n (cell n l) (cell n inv)) inv) inv
