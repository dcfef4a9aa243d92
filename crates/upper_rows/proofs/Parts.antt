-- m cells of row i written anew, from column c on: the other rows and what lies past the matrix stay. Assumes nothing.
use mathlib.Core.Path.{◌≡◌, refl, ap, ◌∙◌}
use mathlib.Core.List.{List}
use Prim.Native.Nat.{ℕ, ◌+◌, ◌-◌, ◌*◌, ◌<◌, ◌≤◌}
use native.Mathlib.Nat.{add-zero}
use native.Mathlib.Decide.{dec_lt}
use native.Mathlib.Omega.{arith}
use lib.ListN.{length, get_or, set}
use lib.Ieee.{Float, nan}
use Rattle.grids.specs.Grid.{cell, run}
use Rattle.grids.proofs.Grids.{inside, row_in, run_before, run_past, run-cell}

module _ (n i c m : ℕ) (g : ℕ → Float) (t : List Float) (hi : i < n) (hc : c + m ≤ n) where
  -- cells written in row i leave the other rows
  pub part_others : (r c' : ℕ) → r < n → c' < n → (r ≡ i → ⊥) → cell n (run (i * n + c) m g t) r c' ≡ cell n t r c'
  part_others r c' hr hc' off =
      elim (dec_lt r i) [
        | yes k ↦ run_before (i * n + c) m g t (r * n + c') (omega (arith, inside i n r c' k hc'))
        | no k ↦ elim (dec_lt i r) [
          | yes k' ↦ run_past (i * n + c) m g t (r * n + c') (omega (arith, row_in r n i k'))
          | no k' ↦ absurd (off (omega arith))
        ]
      ]

  -- and what lies past the matrix
  pub part_past : (k : ℕ) → n * n ≤ k → get_or (run (i * n + c) m g t) k nan ≡ get_or t k nan
  part_past k h = run_past (i * n + c) m g t k (omega (arith, row_in n n i hi))

  -- the cell in column c' of those written
  pub part_cell : n * n ≤ length t → (c' : ℕ) → c ≤ c' → c' < c + m → cell n (run (i * n + c) m g t) i c' ≡ g (c' - c)
  part_cell fits c' le lt =
      let e : i * n + c' ≡ i * n + c + (c' - c) = omega arith in
      ap (λ (p : ℕ). get_or (run (i * n + c) m g t) p nan) e ∙ run-cell (i * n + c) m g t (c' - c) (omega arith) (omega (arith, row_in n n i hi))

-- one cell written is a part of one
pub one_cell : (at : ℕ) (v : Float) (t : List Float) → set t at v ≡ run at 1 (λ _. v) t
unfolding run
one_cell at v t = rw add-zero refl
