-- An operation on all cells of a matrix that was just written in front of a buffer, said of the entries that were written: a later matrix takes an earlier one's place. Assumes nothing.
use mathlib.Core.Path.{◌≡◌, sym, ap, ◌∙◌}
use mathlib.Core.List.{List}
use Prim.Native.Nat.{ℕ, ◌*◌, ◌≤◌}
use lib.ListN.{length, get_or}
use lib.Ieee.{Float, nan}
use Rattle.grids.specs.Grid.{cell, run, grid}
use Rattle.grids.proofs.Grids.{grid-cell, grid_ext, grid_flat}
use Rattle.grids.proofs.Steps.{grid_over}

module _ (op : Float → Float → Float) (n : ℕ) (e : ℕ → ℕ → Float) (l a b l' : List Float) where
  -- l is e in front of a, and then each entry goes through op with b's
  pub over_left : n * n ≤ length a → l ≡ grid n n e a → l' ≡ run 0 (n * n) (λ i. op (get_or l i nan) (get_or b i nan)) l → l' ≡ grid n n (λ r c. op (e r c) (cell n b r c)) a
  over_left held p q =
      q ∙ sym (grid_flat n n (λ i. op (get_or l i nan) (get_or b i nan)) l)
      ∙ ap (λ (k : List Float). grid n n (λ r c. op (cell n k r c) (cell n b r c)) k) p
      ∙ grid_over n (λ r c. op (cell n (grid n n e a) r c) (cell n b r c)) e a held
      ∙ grid_ext n n _ _ a (λ r c hr hc. ap (λ (x : Float). op x (cell n b r c)) (grid-cell n n e a r c hr hc held))
