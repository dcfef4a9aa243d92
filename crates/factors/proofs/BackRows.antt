-- The second pass in a buffer, a row and its column at a time: each turn reads of the row, and of the rows after it, only cells that are not new yet. Assumes nothing.
use mathlib.Core.Path.{◌≡◌, refl, ap, ap₂, ◌∙◌}
use mathlib.Core.List.{List}
use Prim.Native.Nat.{ℕ, ◌+◌, ◌-◌, ◌*◌, ◌<◌, ◌≤◌}
use native.Mathlib.Omega.{arith}
use lib.ListN.{length, set, length-set}
use lib.Ieee.{Float, Format, mul, neg}
use Rattle.numbers.specs.Reciprocal.{recip_of}
use Rattle.grids.specs.Grid.{grid, cell, Same}
use Rattle.grids.proofs.Turns.{put4}
use Rattle.factors.specs.Rows.{row_sum, row_at, back_row}
use Rattle.factors.proofs.Upward.{plus_ext}
use Rattle.factors.proofs.Crosses.{Crossing, row_unread, under_unread, cross-one, cross-four, all_crossed}

-- the sum goes by the entries of row i and of those after it
pub sum_by : (f : Format) (n : ℕ) (L : ℕ → ℕ → Float) (i j : ℕ) (g h : ℕ → ℕ → Float) → g i j ≡ h i j → ((r : ℕ) → i < r → r < n → g r j ≡ h r j) → row_sum f n L g i j ≡ row_sum f n L h i j
sum_by f n L i j g h s t = plus_ext f (g i j) (h i j) _ _ (n - (i + 1)) s (λ k kh. ap (mul f (neg (L (i + 1 + k) i))) (t (i + 1 + k) (omega arith) (omega arith)))

-- entries that agree within n by n agree after the row
pub row_local : (f : Format) (n : ℕ) (L : ℕ → ℕ → Float) (i : ℕ) → i < n → (g h : ℕ → ℕ → Float) → Same n g h → Same n (back_row f n L g i) (back_row f n L h i)
row_local f n L i hi g h s r c hr hc =
    let at : (j : ℕ) → j < n → row_at f n L g i j ≡ row_at f n L h i j =
    λ j hj. ap (λ (x : Float). mul f x (recip_of f (L i i))) (sum_by f n L i j g h (s i j hi hj) (λ k kh kn. s k j kn hj)) in
    cc (at r hr, at c hc, s r c hr hc)

-- cells 0 to m − 1 of row i and of column i are written over b
abbrev pub RowDone : Format → ℕ → (ℕ → ℕ → Float) → ℕ → List Float → List Float → ℕ → Type 0
RowDone f n L i b z m = Crossing n i (row_at f n L (cell n b) i) b z m

module _ (f : Format) (L : ℕ → ℕ → Float) {n i : ℕ} {b : List Float} (hi : i < n) (fits : n * n ≤ length b) where
  -- the number that a turn works out for the cell j, which is not new yet
  at_cell : {z : List Float} {m : ℕ} {v t d : Float} → RowDone f n L i b z m → (j : ℕ) → m ≤ j → j < n → v ≡ mul f t d → t ≡ row_sum f n L (cell n z) i j → d ≡ recip_of f (L i i) → v ≡ row_at f n L (cell n b) i j
  at_cell {z} {m} w j h hj v t d =
      v ∙ ap₂ (mul f) (t ∙ sum_by f n L i j (cell n z) (cell n b) (row_unread hi fits w j h hj) (λ r hr hn. under_unread hi fits w r j hr hn hj)) d

  -- one cell of both
  pub row_one :
      {z : List Float} {m : ℕ} {t d : Float} → RowDone f n L i b z m → m ≤ i → t ≡ row_sum f n L (cell n z) i m → d ≡ recip_of f (L i i)
      → RowDone f n L i b (set (set z (i * n + m) (mul f t d)) (m * n + i) (mul f t d)) (m + 1)
  row_one w h t d = cross-one hi fits w h (at_cell w _ (omega arith) (omega arith) refl t d)

  -- four of both
  pub row_four :
      {z z' z'' : List Float} {m p q : ℕ} {v0 v1 v2 v3 t0 t1 t2 t3 d : Float} → RowDone f n L i b z m → m + 4 ≤ i + 1 → p ≡ i * n + m → q ≡ m * n + i
      → (v0 ≡ mul f t0 d) × (v1 ≡ mul f t1 d) × (v2 ≡ mul f t2 d) × (v3 ≡ mul f t3 d)
      → (t0 ≡ row_sum f n L (cell n z) i m) × (t1 ≡ row_sum f n L (cell n z) i (m + 1)) × (t2 ≡ row_sum f n L (cell n z) i (m + 2)) × (t3 ≡ row_sum f n L (cell n z) i (m + 3))
      → d ≡ recip_of f (L i i)
      → z' ≡ put4 z p v0 v1 v2 v3
      → z'' ≡ set (set (set (set z' q v0) (q + n) v1) (q + n + n) v2) (q + n + n + n) v3
      → RowDone f n L i b z'' (m + 4)
  row_four {m = m} w h at_row at-column v t d put down =
      cross-four hi fits w h at_row at-column (
        at_cell w m (omega arith) (omega arith) v.0 t.0 d,
        at_cell w (m + 1) (omega arith) (omega arith) v.1 t.1 d,
        at_cell w (m + 2) (omega arith) (omega arith) v.2 t.2 d,
        at_cell w (m + 3) (omega arith) (omega arith) v.3 t.3 d,
      ) put down

-- From m₀ on: a loop that goes on where another stopped knows the buffer as it was then, z₀, and says for any b that what the first wrote over b is written on.
pub record RowOn (f : Format) (n : ℕ) (L : ℕ → ℕ → Float) (i : ℕ) (z₀ : List Float) (m₀ : ℕ) (z : List Float) (m : ℕ) : Type 0 where
  pub within : m ≤ i + 1
  pub size : length z ≡ length z₀
  pub goes_on : (b : List Float) → RowDone f n L i b z₀ m₀ → RowDone f n L i b z m

module _ {f : Format} {n : ℕ} {L : ℕ → ℕ → Float} {i : ℕ} {z₀ : List Float} {m₀ : ℕ} where
  -- where the second loop begins
  pub row_on : m₀ ≤ i + 1 → RowOn f n L i z₀ m₀ z₀ m₀
  row_on h = record { within = h; size = refl; goes_on = λ b w. w }

  -- one cell of both more
  pub one_on :
      {z : List Float} {m : ℕ} {t d : Float} → RowOn f n L i z₀ m₀ z m → i < n → n * n ≤ length z₀ → m ≤ i → t ≡ row_sum f n L (cell n z) i m → d ≡ recip_of f (L i i)
      → RowOn f n L i z₀ m₀ (set (set z (i * n + m) (mul f t d)) (m * n + i) (mul f t d)) (m + 1)
  one_on {z} {m} {t} {d} o hi fits h q e = record {
    within = omega arith;
    size = length-set (set z (i * n + m) (mul f t d)) (m * n + i) (mul f t d) ∙ length-set z (i * n + m) (mul f t d) ∙ o.size;
    goes_on = λ b w. row_one f L hi (omega (arith, w.size)) (o.goes_on b w) h q e;
  }

  -- both loops together wrote the row and the column over b
  pub row_all : {b z : List Float} {m : ℕ} → RowDone f n L i b z₀ m₀ → RowOn f n L i z₀ m₀ z m → i < m → z ≡ grid n n (back_row f n L (cell n b) i) b
  row_all {b} w o h = all_crossed (o.goes_on b w) (omega arith)
