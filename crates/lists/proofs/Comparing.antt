-- The cases of the comparison, by what the tests and the calls on the way found. Assumes nothing.
use mathlib.Core.Path.{◌≡◌, refl}
use mathlib.Core.List.{List, []}
use Prim.Native.Nat.{ℕ, ◌+◌}
use native.Mathlib.Numerals.{add-one}
use lib.ListN.{get_or}
use lib.Ieee.{Float, nan}
use Rattle.lists.specs.declared.seen.Seen.{Seen}
use Rattle.lists.specs.Seen.{float_met, cells_met, buffer_met, buffers_met}

-- ---- the cells
module _ (s : List ℕ) (o : Seen) (b : ℕ) (l : List Float) where
  pub no_cell : o ≡ cells_met s o b l 0
  unfolding cells_met
  no_cell = refl

  pub one_cell : (i : ℕ) (more r : Seen) → more ≡ cells_met s o b l i → r ≡ float_met s more b i (get_or l i nan) → r ≡ cells_met s o b l (i + 1)
  unfolding cells_met
  one_cell i more r e m = rw (add-one i, m, e)

-- ---- the buffers
module _ (s : List ℕ) (o : Seen) (l : List (List Float)) where
  pub no_buffer : o ≡ buffers_met s o l 0
  unfolding buffers_met
  no_buffer = refl

  pub one_buffer : (i : ℕ) (more r : Seen) → more ≡ buffers_met s o l i → r ≡ buffer_met s more i (get_or l i []) → r ≡ buffers_met s o l (i + 1)
  unfolding buffers_met
  one_buffer i more r e m = rw (add-one i, m, e)
