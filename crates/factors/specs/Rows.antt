-- The two passes of the inverse in the lower triangle, a row at a time: what the definition has at (j, i) stands at (i, j), so that neighbours lie side by side.
-- For the contracts of the functions below the public one. Definitions only.
use Rattle.std.specs.Prelude.{cond, ◌&&◌, ℕ, ◌+◌, ◌-◌, leb, ltb, Float}
use Rattle.std.specs.Float.{Format}
use Rattle.std.specs.Float.Ieee.{mul, neg}
use Rattle.numbers.specs.Reciprocal.{recip_of}
use Rattle.factors.specs.Inverse.{plus_sum, solved, cross}

-- ---- the first pass

-- rows 0 to i − 1 down to the diagonal, each as the column that the pass has there; what else e has is left
abbrev pub solved_below : Format → (ℕ → ℕ → Float) → (ℕ → ℕ → Float) → ℕ → ℕ → ℕ → Float
solved_below f L e i r c = cond (ltb r i && leb c r) (solved f L e i c r) (e r c)

-- ---- the second

-- what it begins from: the lower triangle, on both sides of the diagonal
abbrev pub mirrored : (ℕ → ℕ → Float) → ℕ → ℕ → Float
mirrored e r c = cond (leb r c) (e c r) (e r c)

-- entry (i, j) plus the sum of the terms of the rows after i
abbrev pub row_sum : Format → ℕ → (ℕ → ℕ → Float) → (ℕ → ℕ → Float) → ℕ → ℕ → Float
row_sum f n L e i j = plus_sum f (e i j) (λ k. mul f (neg (L (i + 1 + k) i)) (e (i + 1 + k) j)) (n - (i + 1))

-- entries (i, j) and (j, i)
abbrev pub row_at : Format → ℕ → (ℕ → ℕ → Float) → (ℕ → ℕ → Float) → ℕ → ℕ → Float
row_at f n L e i j = mul f (row_sum f n L e i j) (recip_of f (L i i))

-- row i and column i, to the diagonal
abbrev pub back_row : Format → ℕ → (ℕ → ℕ → Float) → (ℕ → ℕ → Float) → ℕ → ℕ → ℕ → Float
back_row f n L e i = cross e i (row_at f n L e i) (i + 1)
