-- The right half of a row, which is written in two times four cells, and rows whose right halves are written two at a time from the last upward, and then the
-- rows above them whole. Assumes nothing.
use mathlib.Core.Path.{◌≡◌, sym, ap, subst, ◌∙◌}
use mathlib.Core.List.{List}
use Prim.Native.Nat.{ℕ, ◌+◌, ◌-◌, ◌*◌, ◌<◌, ◌≤◌}
use native.Mathlib.Nat.{mul-le-mul_right}
use native.Mathlib.Decide.{dec_lt, ℕ_discrete}
use native.Mathlib.Omega.{arith}
use lib.ListN.{length, get_or}
use lib.Ieee.{Float, nan}
use Rattle.side_by_side.specs.declared.Four.{Four}
use Rattle.side_by_side.specs.Chunks.{Chunk}
use Rattle.grids.specs.Grid.{cell, run, grid}
use Rattle.grids.proofs.Grids.{inside, row_in, length_run, run_before, run_past, run-cell, length-grid, grid_past, grid-cell}
use Rattle.grids.proofs.Loops.{Writing, begun}
use Rattle.grids.proofs.Turns.{four_more}
use Rattle.grids.proofs.Overlap.{last_four}
use Rattle.factors.specs.Decomposition.{SameUpper}
use Rattle.row_pairs.proofs.Pairs.{put}

-- ---- one row

-- the columns from 8 on of a row of twelve to sixteen cells from p upward, the last four at its right edge
pub half_put :
    (at n : ℕ) (g : ℕ → Float) (l₀ : List Float) {l₁ l₂ : List Float} {p last : ℕ} (u0 u1 : Four) → 12 ≤ n → n ≤ 16 → p ≡ at → Chunk g 8 u0 × Chunk g last u1
    → l₁ ≡ put l₀ (p + 8) u0 → l₂ ≡ put l₁ (p + last) u1 → last + 4 ≡ n
    → l₂ ≡ run (at + 8) (n - 8) (λ j. g (8 + j)) l₀
half_put at n g l₀ {l₁} {l₂} {p} {last} u0 u1 low high e t q0 q1 edge =
    let w4 : Writing (at + 8) (n - 8) (λ j. g (8 + j)) l₀ l₁ 4 = four_more {j = 0} begun (omega arith) (omega arith) t.0 q0 in
    let x = t.1 in
    last_four {last = n - 12} w4 (omega arith) (omega arith) (omega arith) (
      x.0 ∙ ap g (omega arith),
      x.1 ∙ ap g (omega arith),
      x.2 ∙ ap g (omega arith),
      x.3 ∙ ap g (omega arith),
    ) q1

-- the buffer l with the columns of row s from 8 on anew
abbrev pub half : ℕ → (ℕ → ℕ → Float) → ℕ → List Float → List Float
half cols e s l = run (s * cols + 8) (cols - 8) (λ j. e s (8 + j)) l

module _ (cols : ℕ) (e : ℕ → ℕ → Float) (s : ℕ) (l : List Float) where
  -- a column of row s from 8 on is the new one
  half_same : (j : ℕ) → 8 ≤ j → j < cols → s * cols + cols ≤ length l → cell cols (half cols e s l) s j ≡ e s j
  half_same j low hj fits =
      ap (λ (k : ℕ). get_or (half cols e s l) k nan) (omega arith)
      ∙ run-cell (s * cols + 8) (cols - 8) (λ k. e s (8 + k)) l (j - 8) (omega arith) (omega arith)
      ∙ ap (e s) (omega arith)

  -- a row below s is as it was
  half_below : (i j : ℕ) → 8 ≤ cols → s < i → cell cols (half cols e s l) i j ≡ cell cols l i j
  half_below i j wide h = run_past (s * cols + 8) (cols - 8) (λ k. e s (8 + k)) l (i * cols + j) (omega (arith, row_in i cols s h))

  -- a row above s is as it was
  half_above : (i j : ℕ) → i < s → j < cols → cell cols (half cols e s l) i j ≡ cell cols l i j
  half_above i j h hj = run_before (s * cols + 8) (cols - 8) (λ k. e s (8 + k)) l (i * cols + j) (omega (arith, inside s cols i j h hj))

  -- so is what lies past the matrix
  half_past : (k : ℕ) → 8 ≤ cols → s < cols → cols * cols ≤ k → get_or (half cols e s l) k nan ≡ get_or l k nan
  half_past k wide h hk = run_past (s * cols + 8) (cols - 8) (λ j. e s (8 + j)) l k (omega (arith, row_in cols cols s h))

-- ---- rows

-- the right halves of the rows from r on are written
pub record Halved (cols : ℕ) (e : ℕ → ℕ → Float) (l₀ l : List Float) (r : ℕ) : Type 0 where
  pub within : r ≤ cols
  pub low : 8 ≤ r
  pub size : length l ≡ length l₀
  pub right : (i j : ℕ) → r ≤ i → i < cols → 8 ≤ j → j < cols → cell cols l i j ≡ e i j
  pub past : (k : ℕ) → cols * cols ≤ k → get_or l k nan ≡ get_or l₀ k nan

-- a turn writes those of the two rows before r, the upper one first
pub two_halved :
    {cols : ℕ} {e : ℕ → ℕ → Float} {l₀ l l' : List Float} {r s : ℕ} → cols * cols ≤ length l₀ → Halved cols e l₀ l r → 10 ≤ r → s + 2 ≡ r
    → l' ≡ half cols e (s + 1) (half cols e s l)
    → Halved cols e l₀ l' s
two_halved {cols} {e} {l₀} {l} {l'} {r} {s} fits w h q new =
    let m = half cols e s l in
    let high : r ≤ cols = w.within in
    let size-m : length m ≡ length l = length_run (s * cols + 8) (cols - 8) (λ j. e s (8 + j)) l in
    let size : length l ≡ length l₀ = w.size in
    let first : s * cols + cols ≤ cols * cols = row_in cols cols s (omega arith) in
    let second : (s + 1) * cols + cols ≤ cols * cols = row_in cols cols (s + 1) (omega arith) in
    record {
      within = omega arith;
      low = omega arith;
      size = ap length new ∙ length_run ((s + 1) * cols + 8) (cols - 8) (λ j. e (s + 1) (8 + j)) m ∙ size-m ∙ size;
      right = λ i j hr hi h8 hj.
          ap (λ (k : List Float). cell cols k i j) new
          ∙ elim (ℕ_discrete i (s + 1)) [
            | yes p ↦
                ap (λ (x : ℕ). cell cols (half cols e (s + 1) m) x j) p ∙ half_same cols e (s + 1) m j h8 hj (omega arith) ∙ sym (ap (λ (x : ℕ). e x j) p)
            | no p ↦
                elim (ℕ_discrete i s) [
                  | yes o ↦
                      ap (λ (x : ℕ). cell cols (half cols e (s + 1) m) x j) o ∙ half_above cols e (s + 1) m s j (omega arith) hj
                      ∙ half_same cols e s l j h8 hj (omega arith) ∙ sym (ap (λ (x : ℕ). e x j) o)
                  | no o ↦
                      let below : s + 2 ≤ i = omega arith in
                      half_below cols e (s + 1) m i j (omega arith) (omega arith) ∙ half_below cols e s l i j (omega arith) (omega arith)
                      ∙ w.right i j (omega arith) hi h8 hj
                ]
          ];
      past = λ k hk.
          ap (λ (x : List Float). get_or x k nan) new ∙ half_past cols e (s + 1) m k (omega arith) (omega arith) hk
          ∙ half_past cols e s l k (omega arith) (omega arith) hk ∙ w.past k hk;
    }

-- With the rows above r written whole, all on the diagonal and above it is there, and the rest of the buffer is as it was.
pub all_halved :
    {cols : ℕ} {e : ℕ → ℕ → Float} {l₀ l l' : List Float} {d r : ℕ} → cols * cols ≤ length l₀ → Halved cols e l₀ l d → d ≡ r → l' ≡ grid r cols e l
    → SameUpper cols (cell cols l') e × (length l' ≡ length l₀) × ((k : ℕ) → cols * cols ≤ k → get_or l' k nan ≡ get_or l₀ k nan)
all_halved {cols} {e} {l₀} {l} {l'} {d} {r} fits q same new =
    let w : Halved cols e l₀ l r = subst (Halved cols e l₀ l) same q in
    let size : length l ≡ length l₀ = w.size in
    let upper : r * cols ≤ cols * cols = mul-le-mul_right cols w.within in (
      λ i j hij hj.
          ap (λ (k : List Float). cell cols k i j) new
          ∙ elim (dec_lt i r) [
            | yes h ↦ grid-cell r cols e l i j h hj (omega arith)
            | no h ↦
                let below : r * cols ≤ i * cols = mul-le-mul_right cols (omega arith) in
                grid_past r cols e l (i * cols + j) (omega arith) ∙ w.right i j (omega arith) (omega arith) (omega (arith, w.low)) hj
          ],
      ap length new ∙ length-grid r cols e l ∙ size,
      λ k hk. ap (λ (x : List Float). get_or x k nan) new ∙ grid_past r cols e l k (omega arith) ∙ w.past k hk,
    )
