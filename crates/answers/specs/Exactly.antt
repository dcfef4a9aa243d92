-- Which answer is given exactly when (R3), for the sizes, buffers and places of any call. Definitions only.
use Rattle.std.specs.Prelude.{◌≡◌, Bool, true, false, not, List, [], ◌∷◌, ℕ, zero, suc, ltb, Ok, Err}
use Rattle.answers.specs.declared.Refusal.TheVariants.{Size, Short, Range}
use Rattle.answers.specs.Answers.{Answer}
use Rattle.answers.specs.Tests.{size_taken, Lent, Place}

-- the test holds for each of the list
abbrev pub All : {A : Type 0} → (A → Bool) → List A → Type 0
All p [] = Unit {0}
All p (x ∷ xs) = (p x ≡ true) × All p xs

-- the k-th of the list, counted from 0, is y and the first for which the test fails
abbrev pub FirstNot : {A : Type 0} → (A → Bool) → List A → ℕ → A → Type 0
FirstNot p [] k y = ⊥
FirstNot p (x ∷ xs) zero y = (x ≡ y) × (p x ≡ false)
FirstNot p (x ∷ xs) (suc k) y = (p x ≡ true) × FirstNot p xs k y

-- a buffer is not shorter than its matrix
abbrev pub holds : Lent → Bool
holds b = not (ltb b.len b.cells)

-- a row or column is below its size
abbrev pub inside : Place → Bool
inside p = ltb p.index p.size

-- A row of the table for each answer: when it is given.
pub data Given (ns : List ℕ) (bs : List Lent) (ps : List Place) : Answer → Type 0 where
  -- 1: a size n is 0 or above 16, and it is the first; which size it is
  size : (k n : ℕ) → FirstNot size_taken ns k n → Given ns bs ps (Err (Size k))
  -- 2: every size is taken; a buffer b is shorter than its matrix, and it is the first; which buffer it is
  short : (k : ℕ) (b : Lent) → All size_taken ns → FirstNot holds bs k b → Given ns bs ps (Err (Short k))
  -- 3: sizes and buffers are taken; a row or column p is not below its size, and it is the first; which of the two it is
  range : (k : ℕ) (p : Place) → All size_taken ns → All holds bs → FirstNot inside ps k p → Given ns bs ps (Err (Range p.which))
  -- none of them
  done : All size_taken ns → All holds bs → All inside ps → Given ns bs ps (Ok tt)
