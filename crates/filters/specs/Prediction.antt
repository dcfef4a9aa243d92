-- The prediction, step by step (R17). Definitions only.
use Rattle.std.specs.Prelude.{List, ℕ, Float}
use Rattle.std.specs.Float.{Format}
use Rattle.std.specs.Float.Ieee.{add}
use Rattle.grids.specs.Grid.{cell}
use Rattle.entries.specs.Entries.{times, times_t, times_x, numbers}

-- A·x, which predicted_x and x take
abbrev pub predicted_x : Format → ℕ → List Float → List Float → ℕ → Float
predicted_x f n A x = times_x f n (cell n A) (numbers x)

-- A·P
abbrev pub temp_p : Format → ℕ → List Float → List Float → ℕ → ℕ → Float
temp_p f n A P = times f n (cell n A) (cell n P)

-- (A·P)·Aᵀ, and then Q on top
abbrev pub predicted_p : Format → ℕ → List Float → List Float → List Float → ℕ → ℕ → Float
predicted_p f n A P Q r c = add f (times_t f n (temp_p f n A P) (cell n A) r c) (cell n Q r c)
