-- When all numbers of a vector, and all entries of a matrix, are finite: no NaN and no infinity among them. Definitions only.
use Rattle.std.specs.Prelude.{Bool, true, ◌&&◌, ℕ, zero, suc, Float}
use Rattle.std.specs.Float.Ieee.Scale.{finite}

-- the test holds for every index below n
unfoldable pub every : ℕ → (ℕ → Bool) → Bool
every zero p = true
every (suc n) p = every n p && p n

-- the n numbers k ↦ x k are finite
abbrev pub all_finite : ℕ → (ℕ → Float) → Bool
all_finite n x = every n (λ k. finite (x k))

-- the entries (r, c) ↦ e r c within n by n are finite
abbrev pub entries_finite : ℕ → (ℕ → ℕ → Float) → Bool
entries_finite n e = every n (λ r. all_finite n (e r))
