-- The same calls made one by one, from the first: each reads its record where it stands in the row, and puts back what comes of it (R33). Definitions only.
use Rattle.std.specs.Prelude.{List, ℕ, zero, suc, set}
use Rattle.one_state.specs.declared.OneState.{OneState}
use Rattle.rows.specs.Rows.{feeder}

-- the row after n of them, g being what a call makes of an index and of the record there
unfoldable pub one_after_another : (ℕ → OneState → OneState) → ℕ → List OneState → List OneState
one_after_another g zero row = row
one_after_another g (suc n) row = set (one_after_another g n row) n (g n (feeder (one_after_another g n row) n))
