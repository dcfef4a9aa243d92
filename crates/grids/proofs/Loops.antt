-- A loop that writes n cells of a buffer in order, from `at` upward: what holds before each turn, that a turn keeps it, and what it leaves. Assumes nothing.
use mathlib.Core.Path.{◌≡◌, refl, ap, ◌∙◌}
use mathlib.Core.List.{List}
use Prim.Native.Nat.{ℕ, ◌+◌, ◌<◌, ◌≤◌}
use native.Mathlib.Numerals.{add-one}
use native.Mathlib.Omega.{arith}
use lib.ListN.{length, get_or, set, length-set}
use lib.Ieee.{Float, nan}
use Rattle.grids.specs.Grid.{run}
use Rattle.grids.proofs.Grids.{run_past}

-- j of the n cells are written
pub record Writing (at n : ℕ) (g : ℕ → Float) (l₀ l : List Float) (j : ℕ) : Type 0 where
  pub within : j ≤ n
  pub size : length l ≡ length l₀
  pub so_far : l ≡ run at j g l₀

module _ {at n : ℕ} {g : ℕ → Float} {l₀ : List Float} where
  -- before the first turn none is written
  pub begun : Writing at n g l₀ l₀ 0
  unfolding run
  begun = record { within = omega arith; size = refl; so_far = refl }

  -- a turn that writes cell at + j keeps what holds
  pub written : {l : List Float} {j : ℕ} → Writing at n g l₀ l j → j < n → Writing at n g l₀ (set l (at + j) (g j)) (j + 1)
  unfolding run
  written {l} {j} w h = record {
    within = omega arith;
    size = length-set l (at + j) (g j) ∙ w.size;
    so_far = ap (λ (k : List Float). set k (at + j) (g j)) w.so_far ∙ rw add-one;
  }

  -- a cell that is still to be written is as it was
  pub unread : {l : List Float} {j : ℕ} → Writing at n g l₀ l j → get_or l (at + j) nan ≡ get_or l₀ (at + j) nan
  unread {l} {j} w = ap (λ (k : List Float). get_or k (at + j) nan) w.so_far ∙ run_past at j g l₀ (at + j) (omega arith)

  -- after n turns the run is whole
  pub all_written : {l : List Float} {j : ℕ} → Writing at n g l₀ l j → n ≤ j → l ≡ run at n g l₀
  all_written {l} {j} w h = let e : j ≡ n = omega (arith, w.within) in w.so_far ∙ ap (λ (k : ℕ). run at k g l₀) e
