-- A loop that adds up the terms of the rows j to i − 1, from the first on: what holds before each turn, that a turn keeps it, and what it leaves.
-- And the four sums' terms that not all four have. Assumes nothing.
use mathlib.Core.Path.{◌≡◌, refl, sym, ap, ap₂, subst, ◌∙◌}
use mathlib.Core.List.{List}
use Prim.Native.Nat.{ℕ, zero, suc, ◌+◌, ◌-◌, ◌*◌, ◌<◌, ◌≤◌}
use native.Mathlib.Nat.{add-zero, add-mul, not-suc-le-zero}
use native.Mathlib.Omega.{arith}
use lib.ListN.{get_or}
use lib.Ieee.{Float, Format, nan, add, mul, neg}
use Rattle.numbers.specs.Sums.{plus0, sum_of_first}
use Rattle.entries.proofs.Totals.{AddingOn, begun_on, added_on, all_added_on}
use Rattle.factors.specs.Inverse.{plus_sum}
use Rattle.first_pass.specs.Below.{term, terms_to, all_terms}

-- the product that the code forms, of the numbers at p and q
abbrev pub read : Format → List Float → List Float → ℕ → ℕ → Float
read f l z p q = mul f (neg (get_or l p nan)) (get_or z q nan)

-- the terms of the rows j to k − 1 are added up
pub record Summing (f : Format) (n : ℕ) (l z : List Float) (i j : ℕ) (total : Float) (k : ℕ) : Type 0 where
  pub on : AddingOn f (λ m. term f n l z i j (j + m)) (i - j) total (k - j)

-- with some terms the sum is formed by itself first
plus_some : (f : Format) (s : Float) (t : ℕ → Float) (n : ℕ) → 0 < n → plus_sum f s t n ≡ add f s (sum_of_first f t n)
unfolding plus_sum
plus_some f s t zero h = absurd (not-suc-le-zero h)
plus_some f s t (suc n) h = refl

-- a product is the term of row k by where it is read
at_row : (f : Format) (n : ℕ) (l z : List Float) (i j k : ℕ) {p q : ℕ} → p ≡ i * n + k → q ≡ k * n + j → read f l z p q ≡ term f n l z i j k
at_row f n l z i j k e g = ap₂ (read f l z) e g

module _ {f : Format} {n : ℕ} {l z : List Float} {i j : ℕ} where
  -- before the first turn the total is the term of row j
  pub summing : {k p q : ℕ} → j < i → k ≡ j + 1 → p ≡ i * n + j → q ≡ j * n + j → Summing f n l z i j (read f l z p q) k
  summing {k} {p} {q} h s e g =
      let one : 1 ≡ k - j = omega arith in
      let first : read f l z p q ≡ term f n l z i j (j + 0) = at_row f n l z i j j e g ∙ ap (term f n l z i j) (sym (add-zero j)) in
      record { on = subst (λ (m : ℕ). AddingOn f (λ m. term f n l z i j (j + m)) (i - j) (read f l z p q) m) one (begun_on (omega arith) first) }

  -- a turn adds the term of row k
  pub summed :
      {total total' : Float} {k k' p q : ℕ} → Summing f n l z i j total k → k < i → k' ≡ k + 1 → total' ≡ add f total (read f l z p q)
      → p ≡ i * n + k → q ≡ k * n + j → Summing f n l z i j total' k'
  summed {total' = total'} {k = k} {k' = k'} {p = p} {q = q} w h s a e g =
      let some = w.on.some in
      let more : k - j + 1 ≡ k' - j = omega arith in
      let here : k ≡ j + (k - j) = omega arith in
      let next : read f l z p q ≡ term f n l z i j (j + (k - j)) = at_row f n l z i j k e g ∙ ap (term f n l z i j) here in
      record { on = subst (λ (m : ℕ). AddingOn f (λ m. term f n l z i j (j + m)) (i - j) total' m) more (added_on w.on (omega arith) a next) }

  -- the loop may begin with more than one term
  pub resumed : {total : Float} {k : ℕ} → j < k → k ≤ i → total ≡ terms_to f n l z i j k → Summing f n l z i j total k
  resumed h le e = record { on = record { some = omega arith; within = omega arith; so_far = e } }

  -- after the last turn the whole sum is added to +0
  pub all_summed : {total start : Float} {k : ℕ} → Summing f n l z i j total k → i ≤ k → start ≡ plus0 → add f start total ≡ all_terms f n l z i j
  all_summed w h e =
      let some = w.on.some in
      let within = w.on.within in
      ap₂ (add f) e (all_added_on w.on (omega arith)) ∙ sym (plus_some f plus0 (λ m. term f n l z i j (j + m)) (i - j) (omega arith))

-- ---- rows j to j + 3 of four sums

module _ (f : Format) (n : ℕ) (l z : List Float) (i j : ℕ) (h : j + 4 ≤ i) where
  abbrev p : ℕ
  p = i * n + j

  abbrev q : ℕ
  q = j * n + j

  -- four, three, two and one term
  pub triangle_sums :
      (add f (add f (add f (read f l z p q) (read f l z (p + 1) (q + n))) (read f l z (p + 2) (q + n + n))) (read f l z (p + 3) (q + n + n + n)) ≡ terms_to f n l z i j (j + 4))
      × (add f (add f (read f l z (p + 1) (q + n + 1)) (read f l z (p + 2) (q + n + n + 1))) (read f l z (p + 3) (q + n + n + n + 1)) ≡ terms_to f n l z i (j + 1) (j + 4))
      × (add f (read f l z (p + 2) (q + n + n + 2)) (read f l z (p + 3) (q + n + n + n + 2)) ≡ terms_to f n l z i (j + 2) (j + 4))
      × (read f l z (p + 3) (q + n + n + n + 3) ≡ terms_to f n l z i (j + 3) (j + 4))
  triangle_sums =
      let r1 = add-mul j 1 n in
      let r2 = add-mul j 2 n in
      let r3 = add-mul j 3 n in
      let a1 : Summing f n l z i j _ (j + 1) = summing {p = p} {q = q} (omega arith) refl refl refl in
      let a2 : Summing f n l z i j _ (j + 2) = summed {p = p + 1} {q = q + n} a1 (omega arith) (omega arith) refl (omega arith) (omega (arith, r1)) in
      let a3 : Summing f n l z i j _ (j + 3) = summed {p = p + 2} {q = q + n + n} a2 (omega arith) (omega arith) refl (omega arith) (omega (arith, r2)) in
      let a4 : Summing f n l z i j _ (j + 4) = summed {p = p + 3} {q = q + n + n + n} a3 (omega arith) (omega arith) refl (omega arith) (omega (arith, r3)) in
      let b2 : Summing f n l z i (j + 1) _ (j + 2) = summing {p = p + 1} {q = q + n + 1} (omega arith) (omega arith) (omega arith) (omega (arith, r1)) in
      let b3 : Summing f n l z i (j + 1) _ (j + 3) = summed {p = p + 2} {q = q + n + n + 1} b2 (omega arith) (omega arith) refl (omega arith) (omega (arith, r2)) in
      let b4 : Summing f n l z i (j + 1) _ (j + 4) = summed {p = p + 3} {q = q + n + n + n + 1} b3 (omega arith) (omega arith) refl (omega arith) (omega (arith, r3)) in
      let c3 : Summing f n l z i (j + 2) _ (j + 3) = summing {p = p + 2} {q = q + n + n + 2} (omega arith) (omega arith) (omega arith) (omega (arith, r2)) in
      let c4 : Summing f n l z i (j + 2) _ (j + 4) = summed {p = p + 3} {q = q + n + n + n + 2} c3 (omega arith) (omega arith) refl (omega arith) (omega (arith, r3)) in
      let d4 : Summing f n l z i (j + 3) _ (j + 4) = summing {p = p + 3} {q = q + n + n + n + 3} (omega arith) (omega arith) (omega arith) (omega (arith, r3)) in
      (a4.on.so_far, b4.on.so_far, c4.on.so_far, d4.on.so_far)

-- ---- four sums side by side

-- the terms of the rows up to k − 1 are added up in each of four sums, those of the cells (i, j) to (i, j + 3)
pub record SummingFour (f : Format) (n : ℕ) (l z : List Float) (i j : ℕ) (t0 t1 t2 t3 : Float) (k : ℕ) : Type 0 where
  pub first : Summing f n l z i j t0 k
  pub second : Summing f n l z i (j + 1) t1 k
  pub third : Summing f n l z i (j + 2) t2 k
  pub fourth : Summing f n l z i (j + 3) t3 k

module _ {f : Format} {n : ℕ} {l z : List Float} {i j : ℕ} {t0 t1 t2 t3 : Float} where
  -- the loop begins after the triangle
  pub four_resumed :
      j + 4 ≤ i
      → (t0 ≡ terms_to f n l z i j (j + 4)) × (t1 ≡ terms_to f n l z i (j + 1) (j + 4)) × (t2 ≡ terms_to f n l z i (j + 2) (j + 4)) × (t3 ≡ terms_to f n l z i (j + 3) (j + 4))
      → SummingFour f n l z i j t0 t1 t2 t3 (j + 4)
  four_resumed h t = record {
    first = resumed (omega arith) h t.0;
    second = resumed (omega arith) h t.1;
    third = resumed (omega arith) h t.2;
    fourth = resumed (omega arith) h t.3;
  }

  -- a turn adds the four terms of row k, which lie side by side
  pub four_summed :
      {v0 v1 v2 v3 : Float} {k p q : ℕ} → SummingFour f n l z i j t0 t1 t2 t3 k → k < i
      → (v0 ≡ add f t0 (read f l z p q)) × (v1 ≡ add f t1 (read f l z p (q + 1))) × (v2 ≡ add f t2 (read f l z p (q + 2))) × (v3 ≡ add f t3 (read f l z p (q + 3)))
      → p ≡ i * n + k → q ≡ k * n + j → SummingFour f n l z i j v0 v1 v2 v3 (k + 1)
  four_summed w h v e g = record {
    first = summed w.first h refl v.0 e g;
    second = summed w.second h refl v.1 e (omega arith);
    third = summed w.third h refl v.2 e (omega arith);
    fourth = summed w.fourth h refl v.3 e (omega arith);
  }

  -- after the last turn each is added to +0
  pub all_four_summed :
      {start : Float} {k : ℕ} → SummingFour f n l z i j t0 t1 t2 t3 k → i ≤ k → start ≡ plus0
      → (add f start t0 ≡ all_terms f n l z i j) × (add f start t1 ≡ all_terms f n l z i (j + 1))
      × (add f start t2 ≡ all_terms f n l z i (j + 2)) × (add f start t3 ≡ all_terms f n l z i (j + 3))
  all_four_summed w h e = (all_summed w.first h e, all_summed w.second h e, all_summed w.third h e, all_summed w.fourth h e)
