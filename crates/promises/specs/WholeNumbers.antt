-- Whole numbers stay exact over any number of accepted predictions (R23), and different starts stay different (R24). Definitions only.
use Rattle.std.specs.Prelude.{◌≡◌, true, List, [], ◌∷◌, ℕ, ◌+◌, ◌^◌, ◌≤◌, ◌<◌, pos, nat_abs}
use Rattle.std.specs.Float.{Format}
use Rattle.std.specs.Float.Ieee.{prec, ne}
use Rattle.numbers.specs.Whole.{abs_sum}
use Rattle.grids.specs.Grid.{cell}
use Rattle.entries.specs.Entries.{numbers}
use Rattle.promises.specs.Formulas.{Column, Matrix, terms_a_x, terms_a_p, terms_t_at, a_x, a_p, a_p_at_q, Spreading, exact_x, exact_p}
use Rattle.promises.specs.Runs.{State, HoldsColumn, HoldsMatrix, Run}

-- ---- how large the terms behind an entry may be, added up without their signs

-- 16,777,216 for binary32, and 9,007,199,254,740,992 for binary64
abbrev pub limit : Format → ℕ
limit f = 2 ^ prec f

-- of A·x
abbrev pub SmallX : Format → ℕ → Matrix → Column → Type 0
SmallX f n a x = (r : ℕ) → r < n → abs_sum (terms_a_x a x r) n ≤ limit f

-- of A·P, and of (A·P)·Aᵀ with Q
pub record SmallP (f : Format) (n : ℕ) (a p q : Matrix) : Type 0 where
  pub of_a_p : (r c : ℕ) → r < n → c < n → abs_sum (terms_a_p a p r c) n ≤ limit f
  pub of_a_p_at_q : (r c : ℕ) → r < n → c < n → abs_sum (terms_t_at (a_p n a p) a r c) n + nat_abs (q r c) ≤ limit f

-- at each of the predictions of x, call by call: the numbers are those that the ones before it give
abbrev pub AllSmallX : Format → ℕ → List Matrix → Column → Type 0
AllSmallX f n [] x = Unit {0}
AllSmallX f n (a ∷ ms) x = SmallX f n a x × AllSmallX f n ms (a_x n a x)

-- at each of those of P
abbrev pub AllSmallP : Format → ℕ → List Spreading → Matrix → Type 0
AllSmallP f n [] p = Unit {0}
AllSmallP f n (s ∷ ss) p = SmallP f n s.a p s.q × AllSmallP f n ss (a_p_at_q n s.a p s.q)

-- ---- R23's premise, of x and of P: a run from s to e, whose x or P holds these numbers at first
pub record WholeX (f : Format) (n : ℕ) (ms : List Matrix) (ss : List Spreading) (s e : State) (x : Column) : Type 0 where
  pub run : Run f n ms ss s e
  pub start : HoldsColumn n s.x x
  pub small : AllSmallX f n ms x

pub record WholeP (f : Format) (n : ℕ) (ms : List Matrix) (ss : List Spreading) (s e : State) (p : Matrix) : Type 0 where
  pub run : Run f n ms ss s e
  pub start : HoldsMatrix n s.P p
  pub small : AllSmallP f n ss p

-- ---- R24's condition on A: ones on the diagonal, zeros below it
pub record UnitUpper (n : ℕ) (a : Matrix) : Type 0 where
  pub diagonal : (r : ℕ) → r < n → a r r ≡ pos 1
  pub below : (r c : ℕ) → r < n → c < r → a r c ≡ pos 0

-- of each of the As
abbrev pub AllUnitUpper : ℕ → List Matrix → Type 0
AllUnitUpper n [] = Unit {0}
AllUnitUpper n (a ∷ ms) = UnitUpper n a × AllUnitUpper n ms

-- the As of the predictions of P
abbrev pub AsOf : List Spreading → List Matrix
AsOf [] = []
AsOf (s ∷ ss) = s.a ∷ AsOf ss

-- ---- different numbers: at some entry `!=` holds, to which both zeros are one number

-- in x
abbrev pub DifferX : ℕ → State → State → Type 0
DifferX n s s' = (r : ℕ) × (r < n) × (ne (numbers s.x r) (numbers s'.x r) ≡ true)

-- in P
abbrev pub DifferP : ℕ → State → State → Type 0
DifferP n s s' = (r : ℕ) × (c : ℕ) × (r < n) × (c < n) × (ne (cell n s.P r c) (cell n s'.P r c) ≡ true)

-- ---- both rules
pub record WholeNumbers (f : Format) : Type 0 where
  -- R23: x ends with exactly the whole numbers that the formulas give without rounding, and so does P
  pub exact_x_lem : (n : ℕ) (ms : List Matrix) (ss : List Spreading) (s e : State) (x : Column)
      → WholeX f n ms ss s e x
      → HoldsColumn n e.x (exact_x n ms x)
  pub exact_p_lem : (n : ℕ) (ms : List Matrix) (ss : List Spreading) (s e : State) (p : Matrix)
      → WholeP f n ms ss s e p
      → HoldsMatrix n e.P (exact_p n ss p)
  -- R24: two runs that predict x with the same As, whatever they do to P, from different numbers in x end with different numbers in x
  pub different_x : (n : ℕ) (ms : List Matrix) (ss ss' : List Spreading) (s e s' e' : State) (x x' : Column)
      → WholeX f n ms ss s e x → WholeX f n ms ss' s' e' x' → AllUnitUpper n ms
      → DifferX n s s' → DifferX n e e'
  -- two that predict P with the same As and Qs, whatever they do to x, from different numbers in P end with different numbers in P
  pub different_p : (n : ℕ) (ms ms' : List Matrix) (ss : List Spreading) (s e s' e' : State) (p p' : Matrix)
      → WholeP f n ms ss s e p → WholeP f n ms' ss s' e' p' → AllUnitUpper n (AsOf ss)
      → DifferP n s s' → DifferP n e e'
