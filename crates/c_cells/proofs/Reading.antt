-- Reading a cell into a lent number, where `get` found one; and two results that keep the promise are equal. Assumes nothing.
use mathlib.Core.Path.{◌≡◌, refl, sym, ◌∙◌}
use mathlib.Core.List.{List}
use Prim.Native.Nat.{ℕ}
use native.Mathlib.Omega.{arith}
use lib.ListN.{length}
use lib.Ieee.{Float}
use Rattle.std.proofs.Common.{Result, Ok, Err}
use Rattle.answers.specs.Answers.{Answer}
use Rattle.answers.specs.declared.Refusal.{Refusal}
use Rattle.grids.specs.Cells.{cell_answer}
use Rattle.row_major.specs.Get.{Got, read_as}
use Rattle.c_codes.specs.Code.{Told}
use Rattle.c_cells.specs.Cell.{GotInto}
use Rattle.c_codes.proofs.Codes.{done_is_zero}

by_value : (w : Answer) (x y : Float) → Ok y ≡ read_as w x → (w ≡ Ok tt) × (y ≡ x)
by_value (Ok tt) x y e = (refl, cc)
by_value (Err u) x y e = let z : ◌≡◌ {A = ℕ} 0 1 = cc in absurd (omega arith)

-- a number was found: it is the cell's, and the code is 0
pub found : (rows cols : ℕ) (m : List Float) (r c : ℕ) (x : Float) {g : Result Float Refusal} {y : Float}
    → Got rows cols m r c g → g ≡ Ok y → Told (λ v. GotInto rows cols m r c x v y) 0
found rows cols m r c x got e =
    let k = by_value (cell_answer rows cols (length m) r c) _ _ (sym e ∙ got) in
    record { answer = Ok tt; code = sym (done_is_zero (Ok tt) refl); kept = record { answer = sym k.0; after = k.1 } }

-- two results that keep the promise are equal
pub got_into_unique : {rows cols r c : ℕ} {m : List Float} {x x' x'' : Float} {v w : Answer}
    → GotInto rows cols m r c x v x' → GotInto rows cols m r c x w x'' → (v ≡ w) × (x' ≡ x'')
got_into_unique p q = (cc, cc)
