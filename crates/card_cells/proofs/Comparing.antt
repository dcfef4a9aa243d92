-- The cases of the comparison of a buffer, by what the tests and the calls on the way found. Assumes nothing.
use mathlib.Core.Path.{◌≡◌, refl}
use mathlib.Core.List.{List}
use Prim.Native.Nat.{ℕ, ◌+◌}
use native.Mathlib.Numerals.{add-one}
use lib.ListN.{get_or}
use lib.Ieee.{Float, nan}
use Rattle.lists.specs.declared.seen.Seen.{Seen}
use Rattle.card_cells.specs.Cells.{cell_met, all_met}

-- ---- all of them
module _ (s : List ℕ) (o : Seen) (b k : ℕ) (l : List Float) where
  pub no_cell : o ≡ all_met s o b k l 0
  unfolding all_met
  no_cell = refl

  pub one_cell : (i : ℕ) (more r : Seen) → more ≡ all_met s o b k l i → r ≡ cell_met s more b k i (get_or l i nan) → r ≡ all_met s o b k l (i + 1)
  unfolding all_met
  one_cell i more r e m = rw (add-one i, m, e)
