-- One line more: what it adds to the counts, and that each count stays below the position behind it. Assumes nothing.
use mathlib.Core.Bool.{Bool, true, false}
use Prim.Native.Nat.{ℕ, ◌+◌, ◌≤◌, ◌<◌}
use native.Mathlib.Omega.{arith}
use Rattle.root_list.specs.declared.line.Line.{Line}
use Rattle.root_list.specs.declared.line.Line.TheVariants.{Comment, Pair, Bad}
use Rattle.root_list.specs.declared.tally.Tally.{Tally}
use Rattle.root_list.specs.Pattern.{agrees_of}
use Rattle.root_list.specs.Replay.{compare, count_of, Room}

-- ---- the loop: no count is above the position
pub record Under (t : Tally) (at : ℕ) : Type 0 where
  pub compared : t.compared ≤ at
  pub differ : t.differ ≤ at
  pub bad : t.bad ≤ at

pub under_none : Under (record { compared = 0; differ = 0; bad = 0 }) 0
under_none = record { compared = omega arith; differ = omega arith; bad = omega arith }

pub under_more : (l : Line) (t : Tally) (at end : ℕ) → Under t at → at ≤ end → Under (count_of l t) (end + 1)
under_more Comment t at end u h = record { compared = omega arith; differ = omega arith; bad = omega arith }
under_more (Pair arg want) t at end u h = go (agrees_of arg want)
  where
    go : (b : Bool) → Under (compare b t) (end + 1)
    go true = record { compared = omega arith; differ = omega arith; bad = omega arith }
    go false = record { compared = omega arith; differ = omega arith; bad = omega arith }
under_more Bad t at end u h = record { compared = omega arith; differ = omega arith; bad = omega arith }

pub room : (t : Tally) (at : ℕ) → Under t at → at < 18446744073709551615 → Room t
room t at u h = record { compared = omega arith; differ = omega arith; bad = omega arith }
