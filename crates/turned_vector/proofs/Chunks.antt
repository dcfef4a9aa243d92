-- Sums of four entries of a·x side by side, from their first products on, and a row that is written in four times four cells. Assumes nothing.
use mathlib.Core.Path.{◌≡◌, refl, sym, ap, ◌∙◌}
use mathlib.Core.List.{List}
use Prim.Native.Nat.{ℕ, ◌+◌, ◌-◌, ◌*◌, ◌<◌, ◌≤◌}
use native.Mathlib.Nat.{zero-add}
use native.Mathlib.Omega.{arith}
use lib.ListN.{get_or}
use lib.Ieee.{Float, Format, nan, add, mul}
use Rattle.numbers.specs.Sums.{products}
use Rattle.side_by_side.specs.declared.Four.{Four}
use Rattle.side_by_side.specs.Chunks.{Chunk}
use Rattle.grids.specs.Grid.{cell, run}
use Rattle.grids.proofs.Turns.{put4}
use Rattle.entries.specs.Entries.{times_x, numbers}
use Rattle.row_pairs.proofs.Pairs as pairs
use Rattle.entries.proofs.Totals.{AddingOn, left_at, begun_on, added_on, all_added_on}

-- ---- sums

-- k of the products of entries j to j + 3 are added up, where t is aᵀ, of inner by cols
pub record Totals (f : Format) (inner cols : ℕ) (t x : List Float) (j : ℕ) (v : Four) (k : ℕ) : Type 0 where
  pub first : AddingOn f (products f (λ i. cell cols t i j) (numbers x)) inner v.t0 k
  pub second : AddingOn f (products f (λ i. cell cols t i (j + 1)) (numbers x)) inner v.t1 k
  pub third : AddingOn f (products f (λ i. cell cols t i (j + 2)) (numbers x)) inner v.t2 k
  pub fourth : AddingOn f (products f (λ i. cell cols t i (j + 3)) (numbers x)) inner v.t3 k

-- before the first turn each is its first product, of a number of t's first row
pub first_totals :
    (f : Format) (inner cols : ℕ) (t x : List Float) (j : ℕ) (v : Four) → 1 ≤ inner
    → (v.t0 ≡ mul f (get_or x 0 nan) (get_or t j nan)) × (v.t1 ≡ mul f (get_or x 0 nan) (get_or t (j + 1) nan))
    × (v.t2 ≡ mul f (get_or x 0 nan) (get_or t (j + 1 + 1) nan)) × (v.t3 ≡ mul f (get_or x 0 nan) (get_or t (j + 1 + 1 + 1) nan))
    → Totals f inner cols t x j v 1
first_totals f inner cols t x j v some u =
    let y = get_or x 0 nan in
    record {
      first = begun_on some (u.0 ∙ left_at f y t {q = 0 * cols + j} (omega arith));
      second = begun_on some (u.1 ∙ left_at f y t {q = 0 * cols + (j + 1)} (omega arith));
      third = begun_on some (u.2 ∙ left_at f y t {q = 0 * cols + (j + 2)} (omega arith));
      fourth = begun_on some (u.3 ∙ left_at f y t {q = 0 * cols + (j + 3)} (omega arith));
    }

-- a turn adds to each its next product, of the numbers of t from q on
pub more_totals :
    (f : Format) (inner cols : ℕ) (t x : List Float) (j k q : ℕ) (u v : Four) → Totals f inner cols t x j u k → k < inner
    → (v.t0 ≡ add f u.t0 (mul f (get_or x k nan) (get_or t q nan))) × (v.t1 ≡ add f u.t1 (mul f (get_or x k nan) (get_or t (q + 1) nan)))
    × (v.t2 ≡ add f u.t2 (mul f (get_or x k nan) (get_or t (q + 2) nan))) × (v.t3 ≡ add f u.t3 (mul f (get_or x k nan) (get_or t (q + 3) nan)))
    → q ≡ k * cols + j → Totals f inner cols t x j v (k + 1)
more_totals f inner cols t x j k q u v h lt s e =
    let y = get_or x k nan in
    record {
      first = added_on h.first lt s.0 (left_at f y t {q = k * cols + j} e);
      second = added_on h.second lt s.1 (left_at f y t {q = k * cols + (j + 1)} (omega arith));
      third = added_on h.third lt s.2 (left_at f y t {q = k * cols + (j + 2)} (omega arith));
      fourth = added_on h.fourth lt s.3 (left_at f y t {q = k * cols + (j + 3)} (omega arith));
    }

-- after the last turn they are the entries
pub all_totals :
    (f : Format) (inner cols : ℕ) (t x : List Float) (j : ℕ) (v : Four) {k : ℕ} → Totals f inner cols t x j v k → inner ≤ k
    → Chunk (times_x f inner (λ j k. cell cols t k j) (numbers x)) j v
all_totals f inner cols t x j v h le = (all_added_on h.first le, all_added_on h.second le, all_added_on h.third le, all_added_on h.fourth le)

-- ---- one row

-- a row of twelve to sixteen cells, the last four at its right edge
pub sixteen_put :
    (n : ℕ) (g : ℕ → Float) (l₀ : List Float) {l₁ l₂ l₃ l₄ : List Float} (u0 u1 u2 u3 : Four) → 12 ≤ n → n ≤ 16
    → Chunk g 0 u0 × Chunk g 4 u1 × Chunk g 8 u2 × Chunk g (n - 4) u3
    → l₁ ≡ put4 l₀ 0 u0.t0 u0.t1 u0.t2 u0.t3 → l₂ ≡ put4 l₁ 4 u1.t0 u1.t1 u1.t2 u1.t3
    → l₃ ≡ put4 l₂ 8 u2.t0 u2.t1 u2.t2 u2.t3 → l₄ ≡ put4 l₃ (n - 4) u3.t0 u3.t1 u3.t2 u3.t3
    → l₄ ≡ run 0 n g l₀
sixteen_put n g l₀ {l₁} {l₂} {l₃} {l₄} u0 u1 u2 u3 low high t q0 q1 q2 q3 =
    pairs.sixteen_put 0 n g l₀ {p = 0} u0 u1 u2 u3 low high refl t q0 q1 q2 (q3 ∙ ap (λ (p : ℕ). put4 l₃ p u3.t0 u3.t1 u3.t2 u3.t3) (sym (zero-add (n - 4))))
