-- The tests behind refusals 1 to 3, and the answer of a call that asks them in their order. Definitions only.
use Rattle.std.specs.Prelude.{Bool, cond, ◌&&◌, List, [], ◌∷◌, ◌++◌, ℕ, suc, leb, ltb, Ok, Err}
use Rattle.answers.specs.declared.Refusal.TheVariants.{Size, Short, Range}
use Rattle.answers.specs.Answers.{first_of, Answer}

-- a size that is taken is 1 to 16 (R3)
abbrev pub size_taken : ℕ → Bool
size_taken n = leb 1 n && leb n 16

-- refusal 1 of the k-th size where it is not taken
abbrev pub size_test : ℕ → ℕ → Answer
size_test k n = cond (size_taken n) (Ok tt) (Err (Size k))

-- refusal 2 of the k-th buffer, of len numbers, where it is shorter than its matrix, of so many cells
abbrev pub buffer_test : ℕ → ℕ → ℕ → Answer
buffer_test k cells len = cond (ltb len cells) (Err (Short k)) (Ok tt)

-- refusal 3 of the row (k = 0) or the column (k = 1) i where it is not below its size n
abbrev pub place_test : ℕ → ℕ → ℕ → Answer
place_test k i n = cond (ltb i n) (Ok tt) (Err (Range k))

-- a lent buffer: how many cells its matrix has, and how many numbers are lent
pub record Lent : Type 0 where
  pub cells : ℕ
  pub len : ℕ

-- a row (which = 0) or a column (which = 1), and the size that it is to be below
pub record Place : Type 0 where
  pub which : ℕ
  pub index : ℕ
  pub size : ℕ

abbrev pub lent : ℕ → ℕ → Lent
lent n l = record { cells = n; len = l }

abbrev pub row_below : ℕ → ℕ → Place
row_below i n = record { which = 0; index = i; size = n }

abbrev pub column_below : ℕ → ℕ → Place
column_below i n = record { which = 1; index = i; size = n }

-- the tests of sizes, buffers and places, each in their order; sizes and buffers are numbered from k
abbrev pub size_tests : ℕ → List ℕ → List Answer
size_tests k [] = []
size_tests k (n ∷ ns) = size_test k n ∷ size_tests (suc k) ns

abbrev pub buffer_tests : ℕ → List Lent → List Answer
buffer_tests k [] = []
buffer_tests k (b ∷ bs) = buffer_test k b.cells b.len ∷ buffer_tests (suc k) bs

abbrev pub place_tests : List Place → List Answer
place_tests [] = []
place_tests (p ∷ ps) = place_test p.which p.index p.size ∷ place_tests ps

-- the answer so far, and then these tests: the first refusal stays
abbrev pub after_tests : Answer → List Answer → Answer
after_tests v [] = v
after_tests v (w ∷ ws) = after_tests (first_of v w) ws

-- the answer of a call with these sizes, buffers and places, tested in this order (R4)
abbrev pub call_answer : List ℕ → List Lent → List Place → Answer
call_answer ns bs ps = after_tests (Ok tt) (size_tests 0 ns ++ (buffer_tests 0 bs ++ place_tests ps))
