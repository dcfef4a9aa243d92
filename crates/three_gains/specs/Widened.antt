-- Three rows as columns with a column of +0 behind them, and an entry of the gain by the row of P·Hᵀ. Definitions only.
use Rattle.std.specs.Prelude.{cond, ℕ, ltb, Float}
use Rattle.std.specs.Float.{Format}
use Rattle.numbers.specs.Sums.{plus0, sum_from, products}
use Rattle.thin_products.specs.declared.Three.{Three}
use Rattle.thin_products.specs.Thin.{number_at}
use Rattle.three_solved.specs.declared.Solved.{Solved}
use Rattle.three_solved.specs.Solved.{inverse_in}

-- entry (k, j) of the matrix that has the rows h 0, h 1 and h 2 as its columns
abbrev pub widened : (ℕ → ℕ → Float) → ℕ → ℕ → Float
widened h k j = cond (ltb j 3) (h j k) plus0

-- entry j of the gain's row, a being that of P·Hᵀ and v having the inverse
abbrev pub gain_at : Format → Three → Solved → ℕ → Float
gain_at f a v j = sum_from f plus0 (products f (number_at a) (λ k. inverse_in v k j)) 3
