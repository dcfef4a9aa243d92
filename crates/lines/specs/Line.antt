-- Where a line ends. Definitions only.
use Rattle.std.specs.Prelude.{◌≡◌, List, ℕ, ◌≤◌, ◌<◌, max, length, get_or}

-- The line that starts at `from` ends at r: no byte between is a newline (10), and at r there is one, or r is the length.
-- Where `from` is past the end, r is `from`.
pub record LineEnd (s : List ℕ) (from r : ℕ) : Type 0 where
  pub after : from ≤ r
  pub within : r ≤ max from (length s)
  pub clear : (k : ℕ) → k < r → from ≤ k → get_or s k 0 ≡ 10 → ⊥
  pub newline : r < length s → get_or s r 0 ≡ 10
