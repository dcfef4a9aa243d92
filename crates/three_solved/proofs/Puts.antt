-- The factor and the inverse stored, four cells, four more and the last: the grid of three by three computes to the same nine. Assumes nothing.
use mathlib.Core.Path.{◌≡◌, refl}
use mathlib.Core.List.{List}
use lib.ListN.{set}
use lib.Ieee.{Float}
use Rattle.numbers.specs.Sums.{plus0}
use Rattle.grids.specs.Grid.{run, grid}
use Rattle.three_solved.specs.declared.Solved.{Solved}
use Rattle.three_solved.specs.Solved.{factor_in, inverse_in}

-- b with the nine of v's factor, and of its inverse
module _ (v : Solved) (b : List Float) where
  abbrev first_of_factor : List Float
  first_of_factor = set (set (set (set b 0 v.l00) 1 plus0) 2 plus0) 3 v.l10

  abbrev next_of_factor : List Float → List Float
  next_of_factor m = set (set (set (set m 4 v.l11) 5 plus0) 6 v.l20) 7 v.l21

  factor_nine : set (next_of_factor first_of_factor) 8 v.l22 ≡ grid 3 3 (factor_in v) b
  unfolding run grid
  factor_nine = refl

  pub factor_put : (m n : List Float) → m ≡ first_of_factor → n ≡ next_of_factor m → set n 8 v.l22 ≡ grid 3 3 (factor_in v) b
  factor_put m n p q = rw (q, p) factor_nine

  abbrev first_of_inverse : List Float
  first_of_inverse = set (set (set (set b 0 v.i00) 1 v.i01) 2 v.i02) 3 v.i01

  abbrev next_of_inverse : List Float → List Float
  next_of_inverse m = set (set (set (set m 4 v.i11) 5 v.i12) 6 v.i02) 7 v.i12

  inverse_nine : set (next_of_inverse first_of_inverse) 8 v.i22 ≡ grid 3 3 (inverse_in v) b
  unfolding run grid
  inverse_nine = refl

  pub inverse_put : (m n : List Float) → m ≡ first_of_inverse → n ≡ next_of_inverse m → set n 8 v.i22 ≡ grid 3 3 (inverse_in v) b
  inverse_put m n p q = rw (q, p) inverse_nine
