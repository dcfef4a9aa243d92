-- Row i from the diagonal on, where its pivot is taken: the root is stored once the rest of the row is filled with its reciprocal. Assumes nothing.
use mathlib.Core.Path.{◌≡◌, sym, ap, ◌∙◌}
use mathlib.Core.List.{List}
use Prim.Native.Nat.{ℕ, ◌+◌, ◌*◌, ◌<◌, ◌≤◌}
use native.Mathlib.Decide.{ℕ_discrete}
use native.Mathlib.Omega.{arith}
use borrow.Author.Tests.{eq-eqb, ne_eqb}
use lib.ListN.{length, set}
use lib.Ieee.{Float, Format, mul}
use Rattle.numbers.specs.Reciprocal.{recip_of}
use Rattle.numbers.specs.Root.{sqrt_of}
use Rattle.grids.specs.Grid.{cell}
use Rattle.grids.proofs.Grids.{length_run, run_past}
use Rattle.factors.specs.Pivots.{pivot_taken}
use Rattle.pivots.specs.declared.Pivot.{Pivot}
use Rattle.pivots.specs.declared.Pivot.TheVariants.{Accepted}
use Rattle.pivots.specs.Pivots.{pivot_of}
use Rattle.pivots.proofs.Cases.{accepted_is}
use Rattle.upper_rows.specs.Rows.{left, filled, RowAnew}
use Rattle.upper_rows.proofs.Parts.{part_others, part_past, part_cell, one_cell}

module _ (f : Format) (n i : ℕ) (t₀ : List Float) (hi : i < n) (fits : n * n ≤ length t₀) where
  -- the root stored on the diagonal, once the rest of the row is filled with its reciprocal
  with_root :
      (x y : Float) (t : List Float) → x ≡ sqrt_of f (left f (cell n t₀) i i) → y ≡ recip_of f (sqrt_of f (left f (cell n t₀) i i))
      → RowAnew n i (i + 1) (λ c. mul f (left f (cell n t₀) i c) y) t₀ t
      → RowAnew n i i (filled f (cell n t₀) i) t₀ (set t (i * n + i) x)
  with_root x y t p s w =
      let g : ℕ → Float = λ j. x in
      let same = w.size in
      rw (one_cell (i * n + i) x t) (record {
        size = length_run (i * n + i) 1 g t ∙ w.size;
        row = λ c from lt.
            elim (ℕ_discrete c i) [
              | yes k ↦ part_cell n i i 1 g t hi (omega arith) (omega arith) c from (omega arith) ∙ p ∙ simp (eq-eqb c i k)
              | no k ↦ run_past (i * n + i) 1 g t (i * n + c) (omega arith) ∙ w.row c (omega arith) lt ∙ ap (mul f (left f (cell n t₀) i c)) s ∙ simp (ne_eqb c i k)
            ];
        others = λ r c hr hc off. part_others n i i 1 g t hi (omega arith) r c hr hc off ∙ w.others r c hr hc off;
        past = λ k h. part_past n i i 1 g t hi (omega arith) k h ∙ w.past k h;
      })

  -- where the pivot is accepted, the row is filled from the diagonal on
  pub row_taken :
      (s x y : Float) (v : Pivot) (t : List Float) → s ≡ left f (cell n t₀) i i → v ≡ pivot_of f s → v ≡ Accepted x y
      → RowAnew n i (i + 1) (λ c. mul f (left f (cell n t₀) i c) y) t₀ t
      → RowAnew n i i (filled f (cell n t₀) i) t₀ (set t (i * n + i) x)
  row_taken s x y v t p a e w =
      let l = left f (cell n t₀) i i in
      let k = accepted_is (pivot_taken l) (sqrt_of f l) (recip_of f (sqrt_of f l)) l x y (ap (pivot_of f) (sym p) ∙ sym a ∙ e) in
      with_root x y t k.1 k.2 w
