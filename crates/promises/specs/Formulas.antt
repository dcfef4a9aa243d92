-- The prediction's formulas on whole numbers, with no rounding. Definitions only.
use Rattle.std.specs.Prelude.{List, [], ◌∷◌, ℕ, ℤ, pos, ◌+ℤ◌}
use Rattle.numbers.specs.Whole.{sumℤ, productsℤ}

-- the whole numbers of a vector by their places
abbrev pub Column : Type 0
Column = ℕ → ℤ

-- those of a matrix by row and column
abbrev pub Matrix : Type 0
Matrix = ℕ → ℕ → ℤ

-- the terms behind entry r of A·x
abbrev pub terms_a_x : Matrix → Column → ℕ → ℕ → ℤ
terms_a_x a x r = productsℤ (a r) x

-- behind entry (r, c) of A·P
abbrev pub terms_a_p : Matrix → Matrix → ℕ → ℕ → ℕ → ℤ
terms_a_p a p r c = productsℤ (a r) (λ k. p k c)

-- behind entry (r, c) of T·Aᵀ
abbrev pub terms_t_at : Matrix → Matrix → ℕ → ℕ → ℕ → ℤ
terms_t_at t a r c = productsℤ (t r) (λ k. a c k)

-- the entries of A·x, for n states
abbrev pub a_x : ℕ → Matrix → Column → Column
a_x n a x r = sumℤ (pos 0) (terms_a_x a x r) n

-- of A·P
abbrev pub a_p : ℕ → Matrix → Matrix → Matrix
a_p n a p r c = sumℤ (pos 0) (terms_a_p a p r c) n

-- of (A·P)·Aᵀ + Q
abbrev pub a_p_at_q : ℕ → Matrix → Matrix → Matrix → Matrix
a_p_at_q n a p q r c = sumℤ (pos 0) (terms_t_at (a_p n a p) a r c) n +ℤ q r c

-- ---- one prediction after the other

-- the numbers of the A and the Q of an accepted prediction of P
pub record Spreading : Type 0 where
  pub a : Matrix
  pub q : Matrix

-- x after predictions of it with these As, the first first
unfoldable pub exact_x : ℕ → List Matrix → Column → Column
exact_x n [] x = x
exact_x n (a ∷ ms) x = exact_x n ms (a_x n a x)

-- P after predictions of it with these As and Qs
unfoldable pub exact_p : ℕ → List Spreading → Matrix → Matrix
exact_p n [] p = p
exact_p n (s ∷ ss) p = exact_p n ss (a_p_at_q n s.a p s.q)
