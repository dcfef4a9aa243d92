-- A loop that writes x on the diagonal of an n by n matrix, a row at a time: rows below i have it, the others are as they were.
-- And the comatrix, which is a fill with the diagonal written after it. Assumes nothing.
use mathlib.Core.Path.{◌≡◌, refl, sym, ap, ◌∙◌}
use mathlib.Core.List.{List}
use Prim.Native.Nat.{ℕ, ◌+◌, ◌*◌, ◌<◌, ◌≤◌}
use native.Mathlib.Omega.{arith}
use borrow.Author.Tests.{eq-eqb, ne_eqb}
use lib.ListN.{length, set, length-set}
use lib.Ieee.{Float}
use Rattle.grids.specs.Grid.{cell, run, grid, diagonal, Same}
use Rattle.grids.proofs.Grids.{grid_flat}
use Rattle.grids.proofs.Steps.{regrid, up_to, up_start, up_more, up_all}

-- i of the n rows have x on the diagonal
pub record Dotted (n : ℕ) (x : Float) (l₀ l : List Float) (i : ℕ) : Type 0 where
  pub within : i ≤ n
  pub size : length l ≡ length l₀
  pub so_far : l ≡ grid n n (up_to i (diagonal x (cell n l₀)) (cell n l₀)) l₀

-- On the diagonal stands x.
pub diagonal_on : (x : Float) (o : ℕ → ℕ → Float) (r : ℕ) → diagonal x o r r ≡ x
diagonal_on x o r = simp (eq-eqb r r refl)

-- Off the diagonal stands what stood there.
pub diagonal_off : (x : Float) (o : ℕ → ℕ → Float) (r c : ℕ) → (c ≡ r → ⊥) → diagonal x o r c ≡ o r c
diagonal_off x o r c h = simp (ne_eqb r c (λ e. h (sym e)))

-- The diagonal set goes by the entries within n by n alone.
pub diagonal_local : (n : ℕ) (x : Float) (g h : ℕ → ℕ → Float) → Same n g h → Same n (diagonal x g) (diagonal x h)
diagonal_local n x g h s r c hr hc = rw (s r c hr hc)

module _ (n : ℕ) (x : Float) (l₀ : List Float) where
  -- Before the first turn no row has it.
  pub none_dotted : Dotted n x l₀ l₀ 0
  none_dotted = record { within = omega arith; size = refl; so_far = up_start n 0 _ l₀ (λ r c h. absurd (omega arith)) }

  -- A turn writes the cell (i, i), and then row i has it too.
  pub dotted : (l : List Float) (i : ℕ) → n * n ≤ length l₀ → Dotted n x l₀ l i → i < n → Dotted n x l₀ (set l (i * n + i) x) (i + 1)
  dotted l i fits w h =
      let e = cell n l₀ in
      record {
        within = omega arith;
        size = length-set l (i * n + i) x ∙ w.size;
        so_far =
            ap (λ (v : Float). set l (i * n + i) v) (sym (diagonal_on x e i))
            ∙ ap (λ (k : List Float). set k (i * n + i) (diagonal x e i i)) w.so_far
            ∙ up_more n (diagonal x e) e l₀ i i h h fits (λ c q. diagonal_off x e i c q);
      }

  -- After n turns the whole diagonal is written.
  pub all_dotted : (l : List Float) (i : ℕ) → Dotted n x l₀ l i → n ≤ i → l ≡ grid n n (diagonal x (cell n l₀)) l₀
  all_dotted l i w h = w.so_far ∙ up_all n i _ (cell n l₀) l₀ (λ r c hr k. absurd (omega arith))

-- A matrix filled with o whose diagonal is then set to d: d on the diagonal, o elsewhere.
pub comatrix :
    (n : ℕ) (d o : Float) (l z m : List Float) → n * n ≤ length l → z ≡ run 0 (n * n) (λ i. o) l
    → m ≡ grid n n (diagonal d (cell n z)) z → m ≡ grid n n (diagonal d (λ r c. o)) l
comatrix n d o l z m fits filled set_then =
    set_then ∙ regrid n (diagonal d) (λ r c. o) l z fits (diagonal_local n d) (filled ∙ sym (grid_flat n n (λ i. o) l))
