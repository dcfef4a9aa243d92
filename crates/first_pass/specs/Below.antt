-- The sums of the first pass over the cells of its buffers: l has the lower factor, and z what the pass found so far, which stands below the diagonal. Definitions only.
use Rattle.std.specs.Prelude.{List, ℕ, ◌+◌, ◌-◌, Float}
use Rattle.std.specs.Float.{Format}
use Rattle.std.specs.Float.Ieee.{mul, neg}
use Rattle.numbers.specs.Sums.{plus0, sum_of_first}
use Rattle.grids.specs.Grid.{cell}
use Rattle.factors.specs.Inverse.{plus_sum, solved_at}

-- the term of row k in the sum of the cell (i, j)
abbrev pub term : Format → ℕ → List Float → List Float → ℕ → ℕ → ℕ → Float
term f n l z i j k = mul f (neg (cell n l i k)) (cell n z k j)

-- the terms of the rows j to k − 1, added up from the first on
abbrev pub terms_to : Format → ℕ → List Float → List Float → ℕ → ℕ → ℕ → Float
terms_to f n l z i j k = sum_of_first f (λ m. term f n l z i j (j + m)) (k - j)

-- +0, and those of the rows j to i − 1
abbrev pub all_terms : Format → ℕ → List Float → List Float → ℕ → ℕ → Float
all_terms f n l z i j = plus_sum f plus0 (λ m. term f n l z i j (j + m)) (i - j)

-- the cell (i, j): what the definition has at (j, i)
abbrev pub solved_cell : Format → ℕ → List Float → List Float → ℕ → ℕ → Float
solved_cell f n l z i j = solved_at f (cell n l) (λ r c. cell n z c r) i j
