-- A loop that stores an operation of each cell and of a number for it, in the cell: a turn reads a cell that is as lent. Assumes nothing.
use mathlib.Core.Path.{◌≡◌, ap, ◌∙◌}
use mathlib.Core.List.{List}
use Prim.Native.Nat.{ℕ, ◌+◌, ◌*◌, ◌<◌}
use native.Mathlib.Omega.{arith}
use lib.ListN.{get_or, set}
use lib.Ieee.{Float, nan}
use Rattle.grids.specs.Grid.{cell, run}
use Rattle.grids.proofs.Loops.{Writing}
use Rattle.grids.proofs.Turns.{one_more, unread_at, Rows, row_more, unread_row}

-- one cell more, at its place p, of the number y for it
pub combined_more :
    (op : Float → Float → Float) (h : ℕ → Float) {at n : ℕ} {g : ℕ → Float} {l₀ l : List Float} {j : ℕ} (p j' : ℕ) (y v : Float) → ((i : ℕ) → g i ≡ op (get_or l₀ (at + i) nan) (h i))
    → Writing at n g l₀ l j → j < n → p ≡ at + j → j' ≡ j + 1 → y ≡ h j → v ≡ op (get_or l p nan) y
    → Writing at n g l₀ (set l p v) j'
combined_more op h {at} {n} {g} {l₀} {l} {j} p j' y v is w lt e s q r =
    let same : get_or l p nan ≡ get_or l₀ (at + j) nan = ap (λ (k : ℕ). get_or l k nan) e ∙ unread_at w j (omega arith) in
    one_more w lt e s (rw (r, same, q, is j))

-- one row more
pub row_combined :
    (op : Float → Float → Float) (h : ℕ → ℕ → Float) {rows cols : ℕ} {l₀ l l' : List Float} {r : ℕ} → Rows rows cols (λ i j. op (cell cols l₀ i j) (h i j)) l₀ l r → r < rows
    → l' ≡ run (r * cols) cols (λ j. op (cell cols l r j) (h r j)) l
    → Rows rows cols (λ i j. op (cell cols l₀ i j) (h i j)) l₀ l' (r + 1)
row_combined op h {rows} {cols} {l₀} {l} {l'} {r} w lt q = row_more w lt q (λ j. ap (λ (x : Float). op x (h r j)) (unread_row w j))
