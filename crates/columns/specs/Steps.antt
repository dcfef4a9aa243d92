-- What a column's step leaves, by the case of its pivot. Definitions only.
use Rattle.std.specs.Prelude.{ℕ, Float}
use Rattle.std.specs.Float.{Format}
use Rattle.std.specs.Float.Ieee.{mul}
use Rattle.grids.specs.Grid.{with_cell}
use Rattle.factors.specs.Decomposition.{below}
use Rattle.pivots.specs.declared.Pivot.{Pivot}
use Rattle.pivots.specs.declared.Pivot.TheVariants.{Accepted, Refused}

-- the entries after column i, by its pivot
abbrev pub stored : Format → (ℕ → ℕ → Float) → ℕ → Float → Pivot → ℕ → ℕ → Float
stored f e i d (Accepted r q) = below f (with_cell e i i r) i q
stored f e i d (Refused s) = with_cell e i i (mul f s d)
