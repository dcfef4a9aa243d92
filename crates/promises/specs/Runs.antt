-- A run: calls one after the other, of any number, through what the functions promise. Definitions only.
use Rattle.std.specs.Prelude.{◌≡◌, true, List, [], ◌∷◌, ℕ, ◌<◌, Float}
use Rattle.std.specs.Float.{Format}
use Rattle.answers.specs.Answers.{is_done, Answer}
use Rattle.numbers.specs.Whole.{Whole}
use Rattle.grids.specs.Grid.{cell, Same}
use Rattle.entries.specs.Entries.{numbers}
use Rattle.filters.specs.Predicted.{Predicted, PredictedX, PredictedP}
use Rattle.promises.specs.Formulas.{Column, Matrix, Spreading}

-- the two buffers that a filter keeps from call to call
pub record State : Type 0 where
  pub x : List Float
  pub P : List Float

-- these two
abbrev pub state : List Float → List Float → State
state x P = record { x = x; P = P }

-- ---- buffers that hold whole numbers; both zeros are the number 0

-- the buffer begins with the n numbers of v
abbrev pub HoldsColumn : ℕ → List Float → Column → Type 0
HoldsColumn n l v = (r : ℕ) → r < n → Whole (numbers l r) (v r)

-- the buffer begins with the n by n numbers of m, row-major
abbrev pub HoldsMatrix : ℕ → List Float → Matrix → Type 0
HoldsMatrix n l m = (r c : ℕ) → r < n → c < n → Whole (cell n l r c) (m r c)

-- ---- calls one after the other, of which the accepted predictions alone write x and P

-- the two hold the same n numbers of x and the same n by n of P; what lies past them may differ, and so may the buffers' lengths
pub record SameFront (n : ℕ) (s t : State) : Type 0 where
  pub x : (r : ℕ) → r < n → numbers t.x r ≡ numbers s.x r
  pub P : Same n (cell n t.P) (cell n s.P)

-- A run for n states that takes x and P from s to e. The As of its accepted predictions of x, and the As and Qs of those of P, are listed, the first first:
-- `predict` is one of each. Each call has an A, a Q and work buffers of its own.
pub data Run (f : Format) (n : ℕ) : List Matrix → List Spreading → State → State → Type 0 where
  -- no call
  end : {s : State} → Run f n [] [] s s
  -- an accepted call of predict
  predict : {A Q px temp x' P' px' temp' : List Float} {v : Answer} {a q : Matrix} {ms : List Matrix} {ss : List Spreading} {s e : State}
      → Predicted f n s.x A s.P Q px temp v x' P' px' temp' → is_done v ≡ true
      → HoldsMatrix n A a → HoldsMatrix n Q q
      → Run f n ms ss (state x' P') e
      → Run f n (a ∷ ms) (record { a = a; q = q } ∷ ss) s e
  -- an accepted call of predict_x
  predict_x : {A px x' px' : List Float} {v : Answer} {a : Matrix} {ms : List Matrix} {ss : List Spreading} {s e : State}
      → PredictedX f n s.x A px v x' px' → is_done v ≡ true
      → HoldsMatrix n A a
      → Run f n ms ss (state x' s.P) e
      → Run f n (a ∷ ms) ss s e
  -- an accepted call of predict_p
  predict_p : {A Q temp P' temp' : List Float} {v : Answer} {a q : Matrix} {ms : List Matrix} {ss : List Spreading} {s e : State}
      → PredictedP f n A s.P Q temp v P' temp' → is_done v ≡ true
      → HoldsMatrix n A a → HoldsMatrix n Q q
      → Run f n ms ss (state s.x P') e
      → Run f n ms (record { a = a; q = q } ∷ ss) s e
  -- anything that leaves the numbers of x and P: a refused prediction, correction or update, a write past the matrix, other buffers lent with the same numbers
  left : {ms : List Matrix} {ss : List Spreading} {s t e : State}
      → SameFront n s t
      → Run f n ms ss t e
      → Run f n ms ss s e
