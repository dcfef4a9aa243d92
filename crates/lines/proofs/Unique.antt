-- A line has one end: of two different ends the nearer would be a newline that the farther passes over, or lie past the list.
-- Assumes nothing.
use mathlib.Core.Path.{◌≡◌}
use mathlib.Core.List.{List}
use Prim.Native.Nat.{ℕ, ◌≤◌, ◌<◌, max}
use native.Mathlib.Nat.{le_antisymm, le_of_suc-le-suc, lt_of_not-le}
use native.Mathlib.Omega.{arith}
use Rattle.lines.specs.Line.{LineEnd}

no_farther : {s : List ℕ} {from r q : ℕ} → LineEnd s from r → LineEnd s from q → r < q → ⊥
no_farther {r = r} a b h = b.clear r h a.after (a.newline (inside h a.after b.within))
  where
    inside : {from r q n : ℕ} → r < q → from ≤ r → q ≤ max from n → r < n
    inside h k m = omega arith

not_lt : {m n : ℕ} → (m < n → ⊥) → n ≤ m
not_lt h = le_of_suc-le-suc (lt_of_not-le h)

pub line_end_unique : {s : List ℕ} {from r q : ℕ} → LineEnd s from r → LineEnd s from q → r ≡ q
line_end_unique a b = le_antisymm (not_lt (no_farther b a)) (not_lt (no_farther a b))
