-- What the functions on cells promise (R6, R11): the answer, and every number of each lent buffer afterwards. Definitions only.
use Rattle.std.specs.Prelude.{◌≡◌, List, [], ◌∷◌, ℕ, ◌+◌, ◌*◌, length, set, Float}
use Rattle.answers.specs.Answers.{settled, Answer}
use Rattle.answers.specs.Tests.{lent, row_below, column_below, call_answer}
use Rattle.grids.specs.Grid.{cell, run, grid, diagonal}

-- the answer for the cell (r, c) of a rows by cols matrix in a buffer of len numbers
unfoldable pub cell_answer : ℕ → ℕ → ℕ → ℕ → ℕ → Answer
cell_answer rows cols len r c = call_answer (rows ∷ cols ∷ []) (lent (rows * cols) len ∷ []) (row_below r rows ∷ column_below c cols ∷ [])

-- the answer for one matrix, and for two of one shape
unfoldable pub matrix_answer : ℕ → ℕ → ℕ → Answer
matrix_answer rows cols len = call_answer (rows ∷ cols ∷ []) (lent (rows * cols) len ∷ []) []

unfoldable pub square_answer : ℕ → ℕ → Answer
square_answer n len = call_answer (n ∷ []) (lent (n * n) len ∷ []) []

unfoldable pub pair_answer : ℕ → ℕ → ℕ → ℕ → Answer
pair_answer rows cols la lb = call_answer (rows ∷ cols ∷ []) (lent (rows * cols) la ∷ lent (rows * cols) lb ∷ []) []

-- the cells (r, c) and (c, r) of an n by n matrix
unfoldable pub both_answer : ℕ → ℕ → ℕ → ℕ → Answer
both_answer n len r c = call_answer (n ∷ []) (lent (n * n) len ∷ []) (row_below r n ∷ column_below c n ∷ [])

-- row r, and column c, of a rows by cols matrix in a buffer of la numbers, into one of lb
unfoldable pub row_copy_answer : ℕ → ℕ → ℕ → ℕ → ℕ → Answer
row_copy_answer rows cols la lb r = call_answer (rows ∷ cols ∷ []) (lent (rows * cols) la ∷ lent cols lb ∷ []) (row_below r rows ∷ [])

unfoldable pub column_copy_answer : ℕ → ℕ → ℕ → ℕ → ℕ → Answer
column_copy_answer rows cols la lb c = call_answer (rows ∷ cols ∷ []) (lent (rows * cols) la ∷ lent rows lb ∷ []) (column_below c cols ∷ [])

-- set: the cell (r, c) is x, and no other number changes
pub record Set (rows cols : ℕ) (m : List Float) (r c : ℕ) (x : Float) (v : Answer) (m' : List Float) : Type 0 where
  pub answer : v ≡ cell_answer rows cols (length m) r c
  pub after : m' ≡ settled v (set m (r * cols + c) x) m

-- symmetric set, n by n: both cells, one when row = column
pub record SetBoth (n : ℕ) (m : List Float) (r c : ℕ) (x : Float) (v : Answer) (m' : List Float) : Type 0 where
  pub answer : v ≡ both_answer n (length m) r c
  pub after : m' ≡ settled v (set (set m (r * n + c) x) (c * n + r) x) m

-- row copy: the row asked for, cols numbers in the buffer d
pub record RowCopied (rows cols : ℕ) (m : List Float) (r : ℕ) (d : List Float) (v : Answer) (d' : List Float) : Type 0 where
  pub answer : v ≡ row_copy_answer rows cols (length m) (length d) r
  pub after : d' ≡ settled v (run 0 cols (λ j. cell cols m r j) d) d

-- column copy: rows numbers in the buffer d
pub record ColumnCopied (rows cols : ℕ) (m : List Float) (c : ℕ) (d : List Float) (v : Answer) (d' : List Float) : Type 0 where
  pub answer : v ≡ column_copy_answer rows cols (length m) (length d) c
  pub after : d' ≡ settled v (run 0 rows (λ r. cell cols m r c) d) d

-- whole copy
pub record Copied (rows cols : ℕ) (m d : List Float) (v : Answer) (d' : List Float) : Type 0 where
  pub answer : v ≡ pair_answer rows cols (length m) (length d)
  pub after : d' ≡ settled v (grid rows cols (cell cols m) d) d

-- fill: every cell of the matrix, and none past it
pub record Filled (rows cols : ℕ) (m : List Float) (x : Float) (v : Answer) (m' : List Float) : Type 0 where
  pub answer : v ≡ matrix_answer rows cols (length m)
  pub after : m' ≡ settled v (grid rows cols (λ r c. x) m) m

-- the diagonal alone is x: every other entry stays
pub record DiagonalSet (n : ℕ) (m : List Float) (x : Float) (v : Answer) (m' : List Float) : Type 0 where
  pub answer : v ≡ square_answer n (length m)
  pub after : m' ≡ settled v (grid n n (diagonal x (cell n m)) m) m

-- comatrix: d on the diagonal, o elsewhere. Scalar is o = +0, and identity d = 1 besides.
pub record Comatrix (n : ℕ) (m : List Float) (d o : Float) (v : Answer) (m' : List Float) : Type 0 where
  pub answer : v ≡ square_answer n (length m)
  pub after : m' ≡ settled v (grid n n (diagonal d (λ r c. o)) m) m
