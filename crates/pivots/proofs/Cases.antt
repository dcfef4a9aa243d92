-- What the case of a pivot step says of the pivot: the two cases have different tags, and each carries its numbers. Assumes nothing.
use mathlib.Core.Path.{◌≡◌, refl}
use mathlib.Core.Bool.{Bool, true, false, cond}
use Prim.Native.Nat.{ℕ}
use native.Mathlib.Omega.{arith}
use lib.Ieee.{Float}
use Rattle.pivots.specs.declared.Pivot.TheVariants.{Accepted, Refused}

-- a pivot step that accepts took the pivot, and carries the root and its reciprocal
pub accepted_is : (b : Bool) (r q s x y : Float) → cond b (Accepted r q) (Refused s) ≡ Accepted x y → (b ≡ true) × (x ≡ r) × (y ≡ q)
accepted_is true r q s x y e = (refl, cc, cc)
accepted_is false r q s x y e = let z : ◌≡◌ {A = ℕ} 0 1 = cc in absurd (omega arith)

-- one that refuses did not, and carries the pivot
pub refused_is : (b : Bool) (r q s x : Float) → cond b (Accepted r q) (Refused s) ≡ Refused x → (b ≡ false) × (x ≡ s)
refused_is true r q s x e = let z : ◌≡◌ {A = ℕ} 0 1 = cc in absurd (omega arith)
refused_is false r q s x e = (refl, cc)
