-- The first cells of one row of a matrix written anew: the other entries stay. Assumes nothing.
use mathlib.Core.Path.{◌≡◌, ap, subst, ◌∙◌}
use mathlib.Core.List.{List}
use Prim.Native.Nat.{ℕ, ◌+◌, ◌*◌, ◌<◌, ◌≤◌}
use native.Mathlib.Decide.{dec_lt}
use native.Mathlib.Omega.{arith}
use lib.ListN.{length, get_or}
use lib.Ieee.{Float, nan}
use Rattle.grids.specs.Grid.{run, grid, cell}
use Rattle.grids.proofs.Grids.{inside, row_in, length_run, run_before, run_past, run-cell, length-grid, grid_past, grid-cell, grid_unique}

-- m cells of row i, over a grid
pub row_part :
    (rows cols : ℕ) (old new : ℕ → ℕ → Float) (g : ℕ → Float) (l z : List Float) (i m : ℕ) → i < rows → m ≤ cols → 0 < cols → rows * cols ≤ length l
    → z ≡ grid rows cols old l
    → ((c : ℕ) → c < m → g c ≡ new i c)
    → ((c : ℕ) → m ≤ c → old i c ≡ new i c)
    → ((r c : ℕ) → (r ≡ i → ⊥) → old r c ≡ new r c)
    → run (i * cols) m g z ≡ grid rows cols new l
row_part rows cols old new g l z i m hi hm some fits q first rest others =
    let size : length z ≡ length l = ap length q ∙ length-grid rows cols old l in
    let was : (r c : ℕ) → r < rows → c < cols → cell cols z r c ≡ old r c =
    λ r c hr hc. ap (λ (w : List Float). cell cols w r c) q ∙ grid-cell rows cols old l r c hr hc fits in
    let at_row : (c : ℕ) → c < cols → cell cols (run (i * cols) m g z) i c ≡ new i c =
    λ c hc. elim (dec_lt c m) [
      | yes k ↦ run-cell (i * cols) m g z c k (omega (arith, row_in rows cols i hi)) ∙ first c k
      | no k ↦ run_past (i * cols) m g z (i * cols + c) (omega arith) ∙ was i c hi hc ∙ rest c (omega arith)
    ] in
    grid_unique rows cols new l (run (i * cols) m g z) some fits (length_run (i * cols) m g z ∙ size)
    (λ r c hr hc.
    elim (dec_lt r i) [
      | yes k ↦ run_before (i * cols) m g z (r * cols + c) (inside i cols r c k hc) ∙ was r c hr hc ∙ others r c (λ x. omega arith)
      | no k ↦ elim (dec_lt i r) [
        | yes k' ↦ run_past (i * cols) m g z (r * cols + c) (omega (arith, row_in r cols i k')) ∙ was r c hr hc ∙ others r c (λ x. omega arith)
        | no k' ↦ let here : i ≡ r = omega arith in subst (λ (x : ℕ). cell cols (run (i * cols) m g z) x c ≡ new x c) here (at_row c hc)
      ]
    ])
    (λ p past.
    run_past (i * cols) m g z p (omega (arith, row_in rows cols i hi))
    ∙ ap (λ (w : List Float). get_or w p nan) q ∙ grid_past rows cols old l p past)
