-- S on the diagonal and above it: the sum with R, the factor, and S formed once more. Only these cells decide the factor, and whatever else stands in S's cells is written over. Assumes nothing.
use mathlib.Core.Path.{◌≡◌, ap, ◌∙◌}
use mathlib.Core.List.{List}
use Prim.Native.Nat.{ℕ, ◌+◌, ◌*◌, ◌<◌, ◌≤◌}
use native.Mathlib.Omega.{arith}
use lib.ListN.{length, get_or}
use lib.Ieee.{Float, Format, nan, add}
use Rattle.grids.specs.Grid.{cell, run, grid}
use Rattle.grids.proofs.Grids.{inside, length_run, run_past, length-grid, grid_past, grid-cell, grid_ext, grid_unique}
use Rattle.entries.specs.Entries.{product, product_t, Transposed}
use Rattle.entries.proofs.Agree.{transposed_agrees}
use Rattle.entries.proofs.Written.{front-cell}
use Rattle.factors.specs.Decomposition.{reached, decomposed, SameUpper}
use Rattle.factors.proofs.OnlyUpper.{reached_upper, decomposed_upper}

-- a matrix written over z is the same as over l, where z is l but for the cells that it covers
pub written_over :
    (n : ℕ) (e : ℕ → ℕ → Float) (l z : List Float) → 0 < n → n * n ≤ length l → length z ≡ length l
    → ((k : ℕ) → n * n ≤ k → get_or z k nan ≡ get_or l k nan)
    → grid n n e z ≡ grid n n e l
written_over n e l z pos fits size past =
    grid_unique n n e l (grid n n e z) pos fits (length-grid n n e z ∙ size)
    (λ r j hr hj. grid-cell n n e z r j hr hj (omega (arith, size, fits)))
    (λ i h. grid_past n n e z i h ∙ past i h)

-- what the products and R add up to there, with Hᵀ in t
pub upper_added :
    (f : Format) (n m : ℕ) (HP H t R S S₁ : List Float) {S₂ : List Float} → Transposed n m t H → m * m ≤ length S → length S₁ ≡ length S
    → SameUpper m (cell m S₁) (product f n m HP t)
    → S₂ ≡ run 0 (m * m) (λ j. add f (get_or S₁ j nan) (get_or R j nan)) S₁
    → SameUpper m (cell m S₂) (λ r c. add f (product_t f n HP H r c) (cell m R r c))
upper_added f n m HP H t R S S₁ {S₂} h fits size up e r c hr hc =
    front-cell (m * m) (λ j. add f (get_or S₁ j nan) (get_or R j nan)) S₁ S₂ (r * m + c) (inside m m r c (omega (arith, hr, hc)) hc) (omega (arith, size, fits)) e
    ∙ ap (λ (x : Float). add f x (cell m R r c)) (up r c hr hc ∙ transposed_agrees f m n m HP t S H h r c hc)

-- the sums leave as many cells, and those past the matrix
pub added_size : (f : Format) (m : ℕ) (R S S₁ : List Float) {S₂ : List Float} → length S₁ ≡ length S → S₂ ≡ run 0 (m * m) (λ j. add f (get_or S₁ j nan) (get_or R j nan)) S₁ → length S₂ ≡ length S
added_size f m R S S₁ size e = ap length e ∙ length_run 0 (m * m) (λ j. add f (get_or S₁ j nan) (get_or R j nan)) S₁ ∙ size

pub added_past :
    (f : Format) (m : ℕ) (R S S₁ : List Float) {S₂ : List Float} → ((k : ℕ) → m * m ≤ k → get_or S₁ k nan ≡ get_or S k nan)
    → S₂ ≡ run 0 (m * m) (λ j. add f (get_or S₁ j nan) (get_or R j nan)) S₁
    → (k : ℕ) → m * m ≤ k → get_or S₂ k nan ≡ get_or S k nan
added_past f m R S S₁ past e k h =
    ap (λ (l : List Float). get_or l k nan) e ∙ run_past 0 (m * m) (λ j. add f (get_or S₁ j nan) (get_or R j nan)) S₁ k (omega (arith, h)) ∙ past k h

-- the factor of S₁, which has e there, is that of e, where every pivot is taken
pub upper_taken :
    (f : Format) (m : ℕ) (e : ℕ → ℕ → Float) (S S₁ : List Float) {S₂ : List Float} {v : ℕ} → 0 < m → m * m ≤ length S → length S₁ ≡ length S
    → SameUpper m (cell m S₁) e → ((k : ℕ) → m * m ≤ k → get_or S₁ k nan ≡ get_or S k nan)
    → v ≡ reached f m (cell m S₁) → (m ≤ v → S₂ ≡ grid m m (decomposed f m (cell m S₁)) S₁)
    → m ≤ v → (v ≡ reached f m e) × (S₂ ≡ grid m m (decomposed f m e) S)
upper_taken f m e S S₁ pos fits size up past i after h = (
  i ∙ reached_upper f m (cell m S₁) e up,
  after h
      ∙ grid_ext m m _ _ S₁ (λ r c hr hc. decomposed_upper f m (cell m S₁) e up (omega (arith, h, i)) r c hr hc)
      ∙ written_over m (decomposed f m e) S S₁ pos fits size past,
)
