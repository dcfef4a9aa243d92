-- Two results of one call of get are equal. Assumes nothing.
use mathlib.Core.Path.{◌≡◌}
use mathlib.Core.List.{List}
use Prim.Native.Nat.{ℕ}
use lib.Ieee.{Float}
use Rattle.std.specs.Prelude.{Result}
use Rattle.answers.specs.declared.Refusal.{Refusal}
use Rattle.row_major.specs.Get.{Got}

-- get reads one number, or gives one refusal
pub got_unique : (rows cols : ℕ) (m : List Float) (r c : ℕ) {g h : Result Float Refusal} → Got rows cols m r c g → Got rows cols m r c h → g ≡ h
got_unique rows cols m r c p q = cc
