-- Which refusal a call of a product or a sum gets: sizes as rows, inner, columns; buffers as left, right, destination, auxiliary. Definitions only.
use Rattle.std.specs.Prelude.{[], ◌∷◌, ℕ, ◌*◌}
use Rattle.answers.specs.Answers.{Answer}
use Rattle.answers.specs.Tests.{lent, call_answer}

-- a of rows by inner, b of inner by cols, c of rows by cols
unfoldable pub product_answer : ℕ → ℕ → ℕ → ℕ → ℕ → ℕ → Answer
product_answer rows inner cols la lb lc =
    call_answer (rows ∷ inner ∷ cols ∷ []) (lent (rows * inner) la ∷ lent (inner * cols) lb ∷ lent (rows * cols) lc ∷ []) []

-- the same with an auxiliary for a column of b
unfoldable pub buffered_answer : ℕ → ℕ → ℕ → ℕ → ℕ → ℕ → ℕ → Answer
buffered_answer rows inner cols la lb lc lx =
    call_answer (rows ∷ inner ∷ cols ∷ []) (lent (rows * inner) la ∷ lent (inner * cols) lb ∷ lent (rows * cols) lc ∷ lent inner lx ∷ []) []

-- a of rows by inner, b of cols by inner, c of rows by cols
unfoldable pub transposed_answer : ℕ → ℕ → ℕ → ℕ → ℕ → ℕ → Answer
transposed_answer rows inner cols la lb lc =
    call_answer (rows ∷ inner ∷ cols ∷ []) (lent (rows * inner) la ∷ lent (cols * inner) lb ∷ lent (rows * cols) lc ∷ []) []

-- a of rows by inner, x of inner numbers, c of rows numbers
unfoldable pub row_answer : ℕ → ℕ → ℕ → ℕ → ℕ → Answer
row_answer rows inner la lx lc = call_answer (rows ∷ inner ∷ []) (lent (rows * inner) la ∷ lent inner lx ∷ lent rows lc ∷ []) []
