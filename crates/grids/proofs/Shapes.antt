-- What it says that a call on cells is not refused, `is_done` having said b of its answer v: the product of the sizes is small, the buffers hold their matrices, and the
-- place lies within. Assumes nothing.
use mathlib.Core.Path.{◌≡◌, refl, ap}
use mathlib.Core.Bool.{Bool, true, false}
use mathlib.Core.List.{[], ◌∷◌}
use Prim.Native.Nat.{ℕ, ◌+◌, ◌*◌, ◌≤◌, ◌<◌}
use native.Mathlib.Omega.{arith}
use Rattle.answers.specs.Answers.{is_done, first_of, Answer}
use Rattle.answers.specs.Tests.{size_taken, size_test, buffer_test, place_test, lent, row_below, column_below, after_tests}
use Rattle.answers.proofs.Fit.{fit}
use Rattle.answers.proofs.Kept.{accepted}
use Rattle.answers.proofs.Shorter.{few}
use Rattle.grids.specs.Cells.{matrix_answer, pair_answer, square_answer, cell_answer, both_answer, row_copy_answer, column_copy_answer}
use Rattle.grids.proofs.Grids.{inside, row_in}

-- a matrix of rows by cols in a buffer of len numbers
pub record Shape (rows cols len : ℕ) : Type 0 where
  pub cells_few : rows * cols ≤ 256
  pub holds : rows * cols ≤ len

-- Where the answer for a matrix is done, its sizes are taken and its buffer holds it.
pub matrix_fits : (rows cols len : ℕ) {v : Answer} {b : Bool} → v ≡ matrix_answer rows cols len → b ≡ is_done v → b ≡ true → Shape rows cols len
unfolding matrix_answer
matrix_fits rows cols len q d e =
    let h = fit (rows ∷ cols ∷ []) (lent (rows * cols) len ∷ []) [] (accepted q d e) in
    record { cells_few = few rows cols h.0.1 h.0.2.1; holds = h.1.0 }

-- The same for an n by n matrix.
pub square_fits : (n len : ℕ) {v : Answer} {b : Bool} → v ≡ square_answer n len → b ≡ is_done v → b ≡ true → Shape n n len
unfolding square_answer
square_fits n len q d e =
    let h = fit (n ∷ []) (lent (n * n) len ∷ []) [] (accepted q d e) in
    record { cells_few = few n n h.0.1 h.0.1; holds = h.1.0 }

-- two matrices of rows by cols, in buffers of la and lb numbers
pub record Shapes (rows cols la lb : ℕ) : Type 0 where
  pub cells_few : rows * cols ≤ 256
  pub both_hold : (rows * cols ≤ la) × (rows * cols ≤ lb)

-- Where the answer for two matrices is done, both buffers hold theirs.
pub pair_fits : (rows cols la lb : ℕ) {v : Answer} {b : Bool} → v ≡ pair_answer rows cols la lb → b ≡ is_done v → b ≡ true → Shapes rows cols la lb
unfolding pair_answer
pair_fits rows cols la lb q d e =
    let h = fit (rows ∷ cols ∷ []) (lent (rows * cols) la ∷ lent (rows * cols) lb ∷ []) [] (accepted q d e) in
    record { cells_few = few rows cols h.0.1 h.0.2.1; both_hold = (h.1.0, h.1.1.0) }

-- the cell (r, c) of a matrix of cols columns in a buffer of len numbers
pub record Spot (cols len r c : ℕ) : Type 0 where
  pub place_few : r * cols + c < 256
  pub place_in : r * cols + c < len

-- Where the answer for a cell is done, the cell is one of the buffer's.
pub cell_fits : (rows cols len r c : ℕ) {v : Answer} {b : Bool} → v ≡ cell_answer rows cols len r c → b ≡ is_done v → b ≡ true → Spot cols len r c
unfolding cell_answer
cell_fits rows cols len r c q d e =
    let h = fit (rows ∷ cols ∷ []) (lent (rows * cols) len ∷ []) (row_below r rows ∷ column_below c cols ∷ []) (accepted q d e) in
    let few' = few rows cols h.0.1 h.0.2.1 in
    let at = inside rows cols r c h.2.0 h.2.1.0 in
    let holds = h.1.0 in
    record { place_few = omega arith; place_in = omega arith }

-- A size that is asked for twice is refused the first time.
asked_twice : (n : ℕ) (b : Bool) → size_taken n ≡ b → first_of (size_test 0 n) (size_test 1 n) ≡ size_test 0 n
asked_twice n true e = rw e
asked_twice n false e = rw e

-- So a symmetric set asks for the cell (r, c) of an n by n matrix.
pub cell_of_square : (n len r c : ℕ) → cell_answer n n len r c ≡ both_answer n len r c
unfolding cell_answer both_answer
cell_of_square n len r c = ap (λ (v : Answer). after_tests v (buffer_test 0 (n * n) len ∷ place_test 0 r n ∷ place_test 1 c n ∷ [])) (asked_twice n (size_taken n) refl)

-- Where it is done, both cells are the buffer's.
pub both_fits : (n len r c : ℕ) {v : Answer} {b : Bool} → v ≡ cell_answer n n len r c → b ≡ is_done v → b ≡ true → Spot n len r c × Spot n len c r
unfolding cell_answer
both_fits n len r c q d e =
    let h = fit (n ∷ n ∷ []) (lent (n * n) len ∷ []) (row_below r n ∷ column_below c n ∷ []) (accepted q d e) in
    let few' = few n n h.0.1 h.0.1 in
    let at = inside n n r c h.2.0 h.2.1.0 in
    let across = inside n n c r h.2.1.0 h.2.0 in
    let holds = h.1.0 in
    (record { place_few = omega arith; place_in = omega arith }, record { place_few = omega arith; place_in = omega arith })

-- row r of a matrix of cols columns in a buffer of la numbers, and a buffer of lb numbers that it goes into
pub record RowFits (cols la lb r : ℕ) : Type 0 where
  pub row_few : r * cols + cols ≤ 256
  pub row_holds : r * cols + cols ≤ la
  pub into_holds : cols ≤ lb

-- Where the answer for a row copy is done, the row lies within and the other buffer holds it.
pub row_fits : (rows cols la lb r : ℕ) {v : Answer} {b : Bool} → v ≡ row_copy_answer rows cols la lb r → b ≡ is_done v → b ≡ true → RowFits cols la lb r
unfolding row_copy_answer
row_fits rows cols la lb r q d e =
    let h = fit (rows ∷ cols ∷ []) (lent (rows * cols) la ∷ lent cols lb ∷ []) (row_below r rows ∷ []) (accepted q d e) in
    let few' = few rows cols h.0.1 h.0.2.1 in
    let at = row_in rows cols r h.2.0 in
    let holds = h.1.0 in
    record { row_few = omega arith; row_holds = omega arith; into_holds = h.1.1.0 }

-- Where the answer for a column copy is done, the column is one of the matrix and the other buffer holds it.
pub column_fits : (rows cols la lb c : ℕ) {v : Answer} {b : Bool} → v ≡ column_copy_answer rows cols la lb c → b ≡ is_done v → b ≡ true → (c < cols) × (rows * cols ≤ la) × (rows ≤ lb)
unfolding column_copy_answer
column_fits rows cols la lb c q d e =
    let h = fit (rows ∷ cols ∷ []) (lent (rows * cols) la ∷ lent rows lb ∷ []) (column_below c cols ∷ []) (accepted q d e) in
    (h.2.0, h.1.0, h.1.1.0)
