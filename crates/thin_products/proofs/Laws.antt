-- The totals of a row with one to three columns: what is stored of three, where the columns lie, and that a row of the product is written. Assumes nothing.
use mathlib.Core.Path.{◌≡◌, refl, ap, ◌∙◌}
use mathlib.Core.Logic.{◌⊎◌, ⊎_elim}
use mathlib.Core.List.{List}
use Prim.Native.Nat.{ℕ, zero, suc, ◌+◌, ◌-◌, ◌*◌, ◌<◌, ◌≤◌, min}
use native.Mathlib.Omega.{arith}
use lib.ListN.{length, get_or, set}
use lib.Ieee.{Float, Format, nan}
use Rattle.numbers.specs.Sums.{plus0, sum_from, products}
use Rattle.numbers.proofs.Sums.{sum_same}
use Rattle.grids.specs.Grid.{run}
use Rattle.grids.proofs.Grids.{run_ext}
use Rattle.grids.proofs.Loops.{Writing, begun}
use Rattle.grids.proofs.Turns.{one_more, Rows, row_more}
use Rattle.entries.specs.Entries.{times}
use Rattle.entries.proofs.Totals.{right_at}
use Rattle.thin_products.specs.declared.Three.{Three}
use Rattle.thin_products.specs.Thin.{number_at, strided}

-- ---- some of three

module _ {at cols : ℕ} {g : ℕ → Float} {l l' : List Float} where
  -- the first is stored, and the second where there are two columns
  pub some_put :
      {t0 t1 : Float} → 1 ≤ cols → t0 ≡ g 0 → t1 ≡ g 1 → ((2 ≤ cols) × (l' ≡ set (set l at t0) (at + 1) t1)) ⊎ ((cols < 2) × (l' ≡ set l at t0)) → Writing at cols g l l' (min cols 2)
  some_put {t0} {t1} h e d came =
      ⊎_elim
      (λ s. let two : min cols 2 ≡ 2 = omega (arith, s.0) in rw (s.1, two) (one_more (first (omega (arith, s.0))) s.0 refl refl d))
      (λ s. let one : min cols 2 ≡ 1 = omega (arith, s.0, h) in rw (s.1, one) (first h)) came
    where
      first : 1 ≤ cols → Writing at cols g l (set l at t0) 1
      first h = one_more begun h (omega arith) refl e

  -- and the third where there are three
  pub third_put : {t2 : Float} → 3 ≤ cols → t2 ≡ g 2 → Writing at cols g l l' (min cols 2) → Writing at cols g l (set l' (at + 2) t2) 3
  third_put h e w = let two : min cols 2 ≡ 2 = omega (arith, h) in one_more (rw two at w) h refl refl e

-- ---- where the columns lie

-- how far behind its row's first number the second total, and the third, find theirs
pub record Offsets (cols over one two : ℕ) : Type 0 where
  pub second : one ≡ min 1 (cols - 1) * over
  pub third : two ≡ min 2 (cols - 1) * over

-- as the code has them
pub offsets :
    {cols over one two : ℕ} → 1 ≤ cols → cols ≤ 3 → ((2 ≤ cols) × (one ≡ over)) ⊎ ((cols < 2) × (one ≡ 0)) → ((3 ≤ cols) × (two ≡ over + over)) ⊎ ((cols < 3) × (two ≡ one))
    → Offsets cols over one two
offsets {cols} {over} {one} {two} some few p q =
    let second : one ≡ min 1 (cols - 1) * over =
    ⊎_elim (λ s. omega (arith, s.1, times_over (min 1 (cols - 1)) 1 (omega arith))) (λ s. omega (arith, s.1, times_over (min 1 (cols - 1)) 0 (omega arith))) p in
    record {
      second = second;
      third =
          ⊎_elim
          (λ s. omega (arith, s.1, times_over (min 2 (cols - 1)) 2 (omega arith)))
          (λ s. omega (arith, s.1, second, times_over (min 2 (cols - 1)) (min 1 (cols - 1)) (omega arith))) q;
    }
  where
    times_over : (i n : ℕ) → i ≡ n → i * over ≡ n * over
    times_over i n e = ap (λ (k : ℕ). k * over) e

-- the three numbers of each row lie in b
pub columns_in :
    (inner up : ℕ) (b : List Float) {cols over one two : ℕ} → 1 ≤ cols → ((k j : ℕ) → k < inner → j < cols → k * up + j * over < length b) → Offsets cols over one two
    → (k : ℕ) → k < inner → (k * up < length b) × (k * up + one < length b) × (k * up + two < length b)
columns_in inner up b {cols} some fits o k h = (
  omega (arith, fits k 0 h some),
  omega (arith, fits k (min 1 (cols - 1)) h (omega arith), o.second),
  omega (arith, fits k (min 2 (cols - 1)) h (omega arith), o.third),
)

-- ---- a row

-- the totals of x with three columns of b
abbrev pub Totals : Format → ℕ → (ℕ → Float) → List Float → ℕ → ℕ → ℕ → Three → Type 0
Totals f inner x b up one two t =
    (t.t0 ≡ sum_from f plus0 (products f x (λ k. get_or b (k * up) nan)) inner) × (t.t1 ≡ sum_from f plus0 (products f x (λ k. get_or b (k * up + one) nan)) inner)
    × (t.t2 ≡ sum_from f plus0 (products f x (λ k. get_or b (k * up + two) nan)) inner)

module _ (f : Format) (inner : ℕ) (a : ℕ → ℕ → Float) (b : List Float) (up : ℕ) {cols over one two : ℕ} where
  -- the first ones are the row's entries
  entry_at :
      (t : Three) (r : ℕ) → cols ≤ 3 → Offsets cols over one two → Totals f inner (a r) b up one two t → (j : ℕ) → j < cols
      → number_at t j ≡ times f inner a (strided up over b) r j
  entry_at t r few o h zero lt = h.0 ∙ sum_same f plus0 _ _ inner (λ k l. right_at f (a r k) b (omega arith))
  entry_at t r few o h (suc zero) lt =
      let e : min 1 (cols - 1) ≡ 1 = omega arith in
      h.1 ∙ sum_same f plus0 _ _ inner (λ k l. right_at f (a r k) b (omega (arith, o.second, ap (λ (i : ℕ). i * over) e)))
  entry_at t r few o h (suc (suc zero)) lt =
      let e : min 2 (cols - 1) ≡ 2 = omega arith in
      h.2 ∙ sum_same f plus0 _ _ inner (λ k l. right_at f (a r k) b (omega (arith, o.third, ap (λ (i : ℕ). i * over) e)))
  entry_at t r few o h (suc (suc (suc j))) lt = absurd (omega arith)

  -- so a row is written where they are stored, or what is made of them
  pub row_put :
      (made : ℕ → ℕ → Float → Float) {rows r : ℕ} {l₀ l l' : List Float} (t : Three) → Rows rows cols (λ i j. made i j (times f inner a (strided up over b) i j)) l₀ l r → r < rows
      → cols ≤ 3 → Offsets cols over one two → Totals f inner (a r) b up one two t → l' ≡ run (r * cols) cols (λ j. made r j (number_at t j)) l
      → Rows rows cols (λ i j. made i j (times f inner a (strided up over b) i j)) l₀ l' (r + 1)
  row_put made {rows} {r} {l₀} {l} t w lt few o h q =
      row_more w lt
      (q ∙ run_ext (r * cols) cols (λ j. made r j (number_at t j)) (λ j. made r j (times f inner a (strided up over b) r j)) l (λ j in_row. ap (made r j) (entry_at t r few o h j in_row)))
      (λ j. refl)
