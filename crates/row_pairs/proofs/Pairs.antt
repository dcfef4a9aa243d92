-- Totals of a row of a·b and the places that they are read at, a row that is written in four times four cells, and rows that are written two at a time. Assumes nothing.
use mathlib.Core.Path.{◌≡◌, refl, subst}
use mathlib.Core.List.{List}
use Prim.Native.Nat.{ℕ, ◌+◌, ◌-◌, ◌*◌, ◌<◌, ◌≤◌}
use native.Mathlib.Omega.{arith}
use lib.ListN.{get_or}
use lib.Ieee.{Float, Format, nan, add, mul}
use Rattle.side_by_side.specs.declared.Four.{Four}
use Rattle.side_by_side.specs.Chunks.{Chunk}
use Rattle.grids.specs.Grid.{run}
use Rattle.grids.proofs.Loops.{Writing, begun}
use Rattle.grids.proofs.Turns.{put4, four_more, Rows, row_more}
use Rattle.grids.proofs.Overlap.{last_four}
use Rattle.entries.specs.Entries.{product}
use Rattle.entries.proofs.Totals.{AddingFour, four_in_row, all_four}

-- ---- totals

-- k of the terms of entries j to j + 3 of a row of a·b are added up, where the row of a begins at p
abbrev pub Totals : Format → ℕ → ℕ → List Float → List Float → ℕ → ℕ → Four → ℕ → Type 0
Totals f inner cols a b p j t k = AddingFour f (λ i. get_or a (p + i) nan) b (λ i k. k * cols + i) inner j t.t0 t.t1 t.t2 t.t3 k

-- a turn adds to each its next term, of the numbers of b from q on
pub more_totals :
    (f : Format) (inner cols : ℕ) (a b : List Float) (p j k q : ℕ) (t v : Four) → Totals f inner cols a b p j t k → k < inner
    → (v.t0 ≡ add f t.t0 (mul f (get_or a (p + k) nan) (get_or b q nan))) × (v.t1 ≡ add f t.t1 (mul f (get_or a (p + k) nan) (get_or b (q + 1) nan)))
    × (v.t2 ≡ add f t.t2 (mul f (get_or a (p + k) nan) (get_or b (q + 2) nan))) × (v.t3 ≡ add f t.t3 (mul f (get_or a (p + k) nan) (get_or b (q + 3) nan)))
    → q ≡ k * cols + j → Totals f inner cols a b p j v (k + 1)
more_totals f inner cols a b p j k q t v h lt s e = four_in_row cols h lt s e

-- after the last turn they are the entries
pub all_totals :
    (f : Format) (inner cols : ℕ) (a b : List Float) (r : ℕ) {p : ℕ} (j : ℕ) (t : Four) {k : ℕ} → p ≡ r * inner → Totals f inner cols a b p j t k → inner ≤ k
    → Chunk (product f inner cols a b r) j t
all_totals f inner cols a b r j t {k} e h le = all_four (subst (λ (q : ℕ). Totals f inner cols a b q j t k) e h) le

-- ---- places, each law by itself, since a walk of eight calls hands `omega` far more than it needs

-- the next row begins where this one ends
pub next_row : (r n : ℕ) → r * n + n ≡ (r + 1) * n
next_row r n = omega arith

-- entry 0 stands where its row begins
pub at_start_lem : (p : ℕ) → p ≡ p + 0
at_start_lem p = omega arith

-- a turn brings the end nearer
pub nearer : (k n : ℕ) → k < n → n - (k + 1) < n - k
nearer k n lt = omega arith

-- number k of two rows that lie one after the other from p on, in a list of len
pub record InRows (p inner k len : ℕ) : Type 0 where
  pub next : k + 1 < 18446744073709551616
  pub first : p + k < len
  pub first_fits : p + k < 18446744073709551616
  pub first_byte : (p + k) * 4 < 18446744073709551616
  pub second : p + inner + k < len
  pub second_fits : p + inner + k < 18446744073709551616
  pub second_byte : (p + inner + k) * 4 < 18446744073709551616

pub in_rows : {p inner k len : ℕ} → p + inner + inner ≤ len → len * 4 < 18446744073709551616 → k < inner → InRows p inner k len
in_rows h room lt = record {
  next = omega arith;
  first = omega arith;
  first_fits = omega arith;
  first_byte = omega arith;
  second = omega arith;
  second_fits = omega arith;
  second_byte = omega arith;
}

-- the four chunks of a row that begins at p, in a list of len
pub record InChunks (p last len : ℕ) : Type 0 where
  pub here : p + 3 < len
  pub here_fits : p < 18446744073709551616
  pub four : p + 4 + 3 < len
  pub four_fits : p + 4 < 18446744073709551616
  pub eight : p + 8 + 3 < len
  pub eight_fits : p + 8 < 18446744073709551616
  pub edge : p + last + 3 < len
  pub edge_fits : p + last < 18446744073709551616

pub in_chunks : {p cols last len : ℕ} → 12 ≤ cols → last + 4 ≤ cols → p + cols ≤ len → len < 18446744073709551616 → InChunks p last len
in_chunks low fits h room = record {
  here = omega arith;
  here_fits = omega arith;
  four = omega arith;
  four_fits = omega arith;
  eight = omega arith;
  eight_fits = omega arith;
  edge = omega arith;
  edge_fits = omega arith;
}

-- ---- one row

-- four cells
abbrev pub put : List Float → ℕ → Four → List Float
put l p t = put4 l p t.t0 t.t1 t.t2 t.t3

-- a row of twelve to sixteen cells from p upward, the last four at its right edge
pub sixteen_put :
    (at n : ℕ) (g : ℕ → Float) (l₀ : List Float) {l₁ l₂ l₃ l₄ : List Float} {p : ℕ} (u0 u1 u2 u3 : Four) → 12 ≤ n → n ≤ 16 → p ≡ at
    → Chunk g 0 u0 × Chunk g 4 u1 × Chunk g 8 u2 × Chunk g (n - 4) u3
    → l₁ ≡ put l₀ p u0 → l₂ ≡ put l₁ (p + 4) u1 → l₃ ≡ put l₂ (p + 8) u2 → l₄ ≡ put l₃ (p + (n - 4)) u3
    → l₄ ≡ run at n g l₀
sixteen_put at n g l₀ {l₁} {l₂} {l₃} {l₄} {p} u0 u1 u2 u3 low high e t q0 q1 q2 q3 =
    let w4 : Writing at n g l₀ l₁ 4 = four_more {j = 0} begun (omega arith) (omega arith) t.0 q0 in
    let w8 : Writing at n g l₀ l₂ 8 = four_more {j = 4} w4 (omega arith) (omega arith) t.1 q1 in
    let w12 : Writing at n g l₀ l₃ 12 = four_more {j = 8} w8 (omega arith) (omega arith) t.2 q2 in
    last_four {last = n - 4} w12 (omega arith) (omega arith) (omega arith) t.3 q3

-- ---- rows

-- two rows more
pub two_more :
    {rows cols : ℕ} {e : ℕ → ℕ → Float} {l₀ l l' : List Float} {r : ℕ} → Rows rows cols e l₀ l r → r + 2 ≤ rows
    → l' ≡ run ((r + 1) * cols) cols (e (r + 1)) (run (r * cols) cols (e r) l)
    → Rows rows cols e l₀ l' (r + 2)
two_more {rows} {cols} {e} {l₀} {l} {l'} {r} w h q =
    let first : Rows rows cols e l₀ (run (r * cols) cols (e r) l) (r + 1) = row_more w (omega arith) refl (λ j. refl) in
    let both : Rows rows cols e l₀ l' (r + 1 + 1) = row_more first (omega arith) q (λ j. refl) in
    subst (Rows rows cols e l₀ l') (omega arith) both
