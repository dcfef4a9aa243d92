-- Four totals as a chunk of a row of numbers. Definitions only.
use Rattle.std.specs.Prelude.{◌≡◌, ℕ, ◌+◌, Float}
use Rattle.side_by_side.specs.declared.Four.{Four}

-- t holds the numbers j to j + 3 of the row g
abbrev pub Chunk : (ℕ → Float) → ℕ → Four → Type 0
Chunk g j t = (t.t0 ≡ g j) × (t.t1 ≡ g (j + 1)) × (t.t2 ≡ g (j + 2)) × (t.t3 ≡ g (j + 3))
