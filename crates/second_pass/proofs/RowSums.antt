-- A loop that adds up the terms of a row's inner sum, of the rows k after i, from the first term on: for one cell j, and for four side by side. What holds before each turn,
-- that a turn keeps it, and what it leaves. Assumes nothing.
use mathlib.Core.Path.{◌≡◌, refl, ap, ap₂, subst, ◌∙◌}
use mathlib.Core.List.{List}
use Prim.Native.Nat.{ℕ, zero, suc, ◌+◌, ◌-◌, ◌*◌, ◌<◌, ◌≤◌}
use native.Mathlib.Nat.{add-mul, one-mul, mul-le-mul_right}
use native.Mathlib.Omega.{arith}
use lib.ListN.{get_or}
use lib.Ieee.{Float, Format, nan, add, mul, neg}
use Rattle.numbers.specs.Sums.{sum_of_first}
use Rattle.grids.specs.Grid.{cell}
use Rattle.entries.proofs.Totals.{AddingOn, begun_on, added_on, all_added_on}
use Rattle.factors.specs.Inverse.{plus_sum}
use Rattle.factors.specs.Rows.{row_sum}

-- the terms of the cell j
abbrev terms : Format → ℕ → List Float → List Float → ℕ → ℕ → ℕ → Float
terms f n l z i j k = mul f (neg (cell n l (i + 1 + k) i)) (cell n z (i + 1 + k) j)

-- the terms of the rows from i + 1 to k − 1 are added up
pub record Summing (f : Format) (n : ℕ) (l z : List Float) (i j : ℕ) (total : Float) (k : ℕ) : Type 0 where
  pub so_far : AddingOn f (terms f n l z i j) (n - (i + 1)) total (k - (i + 1))

-- a sum of some terms is formed by itself
some_terms : (f : Format) (s : Float) (t : ℕ → Float) (n : ℕ) → 0 < n → add f s (sum_of_first f t n) ≡ plus_sum f s t n
unfolding plus_sum
some_terms f s t zero h = absurd (omega arith)
some_terms f s t (suc n) h = refl

-- a number of z, at its place
at_place : (z : List Float) {p q : ℕ} → p ≡ q → get_or z p nan ≡ get_or z q nan
at_place z e = ap (λ (x : ℕ). get_or z x nan) e

-- in the last row there are none
pub no_terms : (f : Format) (n : ℕ) (L e : ℕ → ℕ → Float) (i j : ℕ) {v : Float} → i + 1 ≡ n → v ≡ e i j → v ≡ row_sum f n L e i j
unfolding plus_sum
no_terms f n L e i j h q =
    let none : 0 ≡ n - (i + 1) = omega arith in
    q ∙ ap (plus_sum f (e i j) (λ k. mul f (neg (L (i + 1 + k) i)) (e (i + 1 + k) j))) none

-- k rows from row r on lie within the matrix
pub rows_in : (n r k : ℕ) → r + k ≤ n → r * n + k * n ≤ n * n
rows_in n r k h = omega (arith, mul-le-mul_right n h, add-mul r k n)

-- the factors of a term, at the places where the code reads them
term_at : (f : Format) (n : ℕ) (l z : List Float) (i j k : ℕ) {p q : ℕ} → q ≡ k * n + i → p ≡ k * n + j → mul f (neg (get_or l q nan)) (get_or z p nan) ≡ mul f (neg (cell n l k i)) (cell n z k j)
term_at f n l z i j k eq ep = ap₂ (λ (x y : ℕ). mul f (neg (get_or l x nan)) (get_or z y nan)) eq ep

module _ {f : Format} {n : ℕ} {l z : List Float} {i j : ℕ} where
  -- before the first turn the total is the first term
  pub sum_begun : {total : Float} {p q : ℕ} → i + 1 < n → total ≡ mul f (neg (get_or l q nan)) (get_or z p nan) → q ≡ i * n + n + i → p ≡ i * n + n + j → Summing f n l z i j total (i + 2)
  sum_begun {total} h t eq ep =
      let one : 1 ≡ i + 2 - (i + 1) = omega arith in
      record {
        so_far =
            subst (λ (x : ℕ). AddingOn f (terms f n l z i j) (n - (i + 1)) total x) one
            (begun_on (omega arith) (t ∙ term_at f n l z i j (i + 1 + 0) (omega (arith, add-mul i 1 n, one-mul n)) (omega (arith, add-mul i 1 n, one-mul n))));
      }

  -- a turn adds the term of row k
  pub sum_more :
      {total total' : Float} {k p q : ℕ} → Summing f n l z i j total k → k < n → total' ≡ add f total (mul f (neg (get_or l q nan)) (get_or z p nan)) → q ≡ k * n + i → p ≡ k * n + j
      → Summing f n l z i j total' (k + 1)
  sum_more {total} {total'} {k} w h t eq ep =
      let some = w.so_far.some in
      let here : k ≡ i + 1 + (k - (i + 1)) = omega arith in
      let more : k - (i + 1) + 1 ≡ k + 1 - (i + 1) = omega arith in
      record {
        so_far =
            subst (λ (x : ℕ). AddingOn f (terms f n l z i j) (n - (i + 1)) total' x) more
            (added_on w.so_far (omega arith) t (term_at f n l z i j k eq ep ∙ ap (λ (x : ℕ). mul f (neg (cell n l x i)) (cell n z x j)) here));
      }

  -- after the last turn the start and the total are the cell's sum
  pub sum_all : {total v s : Float} {k : ℕ} → Summing f n l z i j total k → n ≤ k → v ≡ add f s total → s ≡ cell n z i j → v ≡ row_sum f n (cell n l) (cell n z) i j
  sum_all w h q e =
      q ∙ ap₂ (add f) e (all_added_on w.so_far (omega arith))
      ∙ some_terms f (cell n z i j) (terms f n l z i j) (n - (i + 1)) (omega (arith, w.so_far.some, w.so_far.within))

-- ---- four side by side

-- those of j and of the three cells after it
pub record FourSums (f : Format) (n : ℕ) (l z : List Float) (i j : ℕ) (t0 t1 t2 t3 : Float) (k : ℕ) : Type 0 where
  pub first : Summing f n l z i j t0 k
  pub second : Summing f n l z i (j + 1) t1 k
  pub third : Summing f n l z i (j + 2) t2 k
  pub fourth : Summing f n l z i (j + 3) t3 k

module _ {f : Format} {n : ℕ} {l z : List Float} {i j : ℕ} where
  -- before the first turn each total is its first term
  pub four_begun :
      {t0 t1 t2 t3 : Float} {p q : ℕ} → i + 1 < n
      → (t0 ≡ mul f (neg (get_or l q nan)) (get_or z p nan)) × (t1 ≡ mul f (neg (get_or l q nan)) (get_or z (p + 1) nan))
      × (t2 ≡ mul f (neg (get_or l q nan)) (get_or z (p + 1 + 1) nan)) × (t3 ≡ mul f (neg (get_or l q nan)) (get_or z (p + 1 + 1 + 1) nan))
      → q ≡ i * n + n + i → p ≡ i * n + n + j → FourSums f n l z i j t0 t1 t2 t3 (i + 2)
  four_begun h t eq ep = record {
    first = sum_begun h t.0 eq ep;
    second = sum_begun h t.1 eq (omega arith);
    third = sum_begun h t.2 eq (omega arith);
    fourth = sum_begun h t.3 eq (omega arith);
  }

  -- a turn adds to each its term of row k
  pub four_more :
      {t0 t1 t2 t3 v0 v1 v2 v3 : Float} {k p q : ℕ} → FourSums f n l z i j t0 t1 t2 t3 k → k < n
      → (v0 ≡ add f t0 (mul f (neg (get_or l q nan)) (get_or z p nan))) × (v1 ≡ add f t1 (mul f (neg (get_or l q nan)) (get_or z (p + 1) nan)))
      × (v2 ≡ add f t2 (mul f (neg (get_or l q nan)) (get_or z (p + 2) nan))) × (v3 ≡ add f t3 (mul f (neg (get_or l q nan)) (get_or z (p + 3) nan)))
      → q ≡ k * n + i → p ≡ k * n + j → FourSums f n l z i j v0 v1 v2 v3 (k + 1)
  four_more w h t eq ep = record {
    first = sum_more w.first h t.0 eq ep;
    second = sum_more w.second h t.1 eq (omega arith);
    third = sum_more w.third h t.2 eq (omega arith);
    fourth = sum_more w.fourth h t.3 eq (omega arith);
  }

  -- after the last turn each start and its total are the cell's sum
  pub four_all :
      {t0 t1 t2 t3 s0 s1 s2 s3 v0 v1 v2 v3 : Float} {k p : ℕ} → FourSums f n l z i j t0 t1 t2 t3 k → n ≤ k
      → (v0 ≡ add f s0 t0) × (v1 ≡ add f s1 t1) × (v2 ≡ add f s2 t2) × (v3 ≡ add f s3 t3)
      → (s0 ≡ get_or z p nan) × (s1 ≡ get_or z (p + 1) nan) × (s2 ≡ get_or z (p + 2) nan) × (s3 ≡ get_or z (p + 3) nan)
      → p ≡ i * n + j
      → (v0 ≡ row_sum f n (cell n l) (cell n z) i j) × (v1 ≡ row_sum f n (cell n l) (cell n z) i (j + 1))
      × (v2 ≡ row_sum f n (cell n l) (cell n z) i (j + 2)) × (v3 ≡ row_sum f n (cell n l) (cell n z) i (j + 3))
  four_all w h v s at = (
    sum_all w.first h v.0 (s.0 ∙ at_place z at),
    sum_all w.second h v.1 (s.1 ∙ at_place z (omega arith)),
    sum_all w.third h v.2 (s.2 ∙ at_place z (omega arith)),
    sum_all w.fourth h v.3 (s.3 ∙ at_place z (omega arith)),
  )

-- in the last row the starts are the cells' sums
pub four-none :
    (f : Format) (n : ℕ) (L : ℕ → ℕ → Float) (z : List Float) (i j : ℕ) {s0 s1 s2 s3 : Float} → i + 1 ≡ n
    → (s0 ≡ get_or z (i * n + j) nan) × (s1 ≡ get_or z (i * n + j + 1) nan) × (s2 ≡ get_or z (i * n + j + 2) nan) × (s3 ≡ get_or z (i * n + j + 3) nan)
    → (s0 ≡ row_sum f n L (cell n z) i j) × (s1 ≡ row_sum f n L (cell n z) i (j + 1)) × (s2 ≡ row_sum f n L (cell n z) i (j + 2)) × (s3 ≡ row_sum f n L (cell n z) i (j + 3))
four-none f n L z i j h s = (
  no_terms f n L (cell n z) i j h s.0,
  no_terms f n L (cell n z) i (j + 1) h (s.1 ∙ at_place z (omega arith)),
  no_terms f n L (cell n z) i (j + 2) h (s.2 ∙ at_place z (omega arith)),
  no_terms f n L (cell n z) i (j + 3) h (s.3 ∙ at_place z (omega arith)),
)
