-- A line of a function that takes a number and gives one back. Definitions only.
use Rattle.std.specs.Prelude.{List, ℕ, Float, Ok}
use Rattle.lists.specs.declared.call.Shape.{Shape}
use Rattle.lists.specs.declared.seen.Seen.{Seen}
use Rattle.lists.specs.Call.{head_at}
use Rattle.lists.specs.Seen.{answer_met, value_met}

-- the number x that came back against the words at a position: the answer, which is done, and the value
unfoldable pub back_met : List ℕ → ℕ → Float → Seen
back_met s at x = value_met s (answer_met s at (Ok tt)) x

-- g of the line's number against the words behind it
unfoldable pub number_met : (Float → Float) → List ℕ → ℕ → Shape → Seen
number_met g s at h = back_met s (head_at s at h).next (g (head_at s at h).u)
