-- What the products promise (R6, R12): the answer, and every number of each buffer that they write. Definitions only.
use Rattle.std.specs.Prelude.{◌≡◌, ℕ, List, length, get_or, Float}
use Rattle.std.specs.Float.{Format, nan}
use Rattle.std.specs.Float.Ieee.{add, mul}
use Rattle.answers.specs.Answers.{settled, Answer}
use Rattle.grids.specs.Grid.{cell, run, grid}
use Rattle.entries.specs.Entries.{product, product_t, row_product}
use Rattle.entries.specs.Answers.{product_answer, buffered_answer, transposed_answer, row_answer}

-- mult: c = a·b
pub record Multiplied (f : Format) (rows inner cols : ℕ) (a b c : List Float) (v : Answer) (c' : List Float) : Type 0 where
  pub answer : v ≡ product_answer rows inner cols (length a) (length b) (length c)
  pub after : c' ≡ settled v (grid rows cols (product f inner cols a b) c) c

-- mult_buffered: c = a·b, and column 0 of b in the auxiliary x
pub record Buffered (f : Format) (rows inner cols : ℕ) (a b c x : List Float) (v : Answer) (c' x' : List Float) : Type 0 where
  pub answer : v ≡ buffered_answer rows inner cols (length a) (length b) (length c) (length x)
  pub after : c' ≡ settled v (grid rows cols (product f inner cols a b) c) c
  pub auxiliary : x' ≡ settled v (run 0 inner (λ k. cell cols b k 0) x) x

-- mult_transb: c = a·bᵀ
pub record MultipliedT (f : Format) (rows inner cols : ℕ) (a b c : List Float) (v : Answer) (c' : List Float) : Type 0 where
  pub answer : v ≡ transposed_answer rows inner cols (length a) (length b) (length c)
  pub after : c' ≡ settled v (grid rows cols (product_t f inner a b) c) c

-- multadd_transb: the total is added to c
pub record AddedT (f : Format) (rows inner cols : ℕ) (a b c : List Float) (v : Answer) (c' : List Float) : Type 0 where
  pub answer : v ≡ transposed_answer rows inner cols (length a) (length b) (length c)
  pub after : c' ≡ settled v (grid rows cols (λ r j. add f (cell cols c r j) (product_t f inner a b r j)) c) c

-- multscale_transb: total·scale is stored
pub record ScaledT (f : Format) (rows inner cols : ℕ) (a b : List Float) (scale : Float) (c : List Float) (v : Answer) (c' : List Float) : Type 0 where
  pub answer : v ≡ transposed_answer rows inner cols (length a) (length b) (length c)
  pub after : c' ≡ settled v (grid rows cols (λ r j. mul f (product_t f inner a b r j) scale) c) c

-- mult_rowvector: c = a·x
pub record RowMultiplied (f : Format) (rows inner : ℕ) (a x c : List Float) (v : Answer) (c' : List Float) : Type 0 where
  pub answer : v ≡ row_answer rows inner (length a) (length x) (length c)
  pub after : c' ≡ settled v (run 0 rows (row_product f inner a x) c) c

-- multadd_rowvector: c = c + a·x
pub record RowAdded (f : Format) (rows inner : ℕ) (a x c : List Float) (v : Answer) (c' : List Float) : Type 0 where
  pub answer : v ≡ row_answer rows inner (length a) (length x) (length c)
  pub after : c' ≡ settled v (run 0 rows (λ r. add f (get_or c r nan) (row_product f inner a x r)) c) c
