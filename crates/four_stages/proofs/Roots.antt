-- The decomposition of two by two by its three cases: the first pivot refused, the second, none. Which it is decides `reached`, and the rest computes. Assumes nothing.
use mathlib.Core.Path.{◌≡◌, refl, sym, ap, ◌∙◌}
use mathlib.Core.Bool.{Bool, true, false, cond}
use Prim.Native.Nat.{ℕ, suc}
use native.Mathlib.Omega.{arith}
use lib.Dec.{ltb}
use lib.Ieee.{Float, binary32, sub, mul}
use Rattle.side_by_side.specs.declared.Four.{Four}
use Rattle.numbers.specs.Reciprocal.{recip_of}
use Rattle.numbers.specs.Root.{sqrt_of}
use Rattle.numbers.specs.Sums.{plus0}
use Rattle.factors.specs.Pivots.{pivot_taken}
use Rattle.factors.specs.Decomposition.{less_dot, factor, last_recip, first_not, pivot_at, refused_at, lower, reached, decomposed}
use Rattle.four_values.specs.Values.{square, in_square}
use Rattle.four_stages.specs.Stages.{Rooted}

-- ---- on entries

module _ (e : ℕ → ℕ → Float) where
  -- the count by the two tests
  counted : (t u : Bool) → pivot_taken (pivot_at binary32 e 0) ≡ t → pivot_taken (pivot_at binary32 e 1) ≡ u → reached binary32 2 e ≡ cond t (suc (cond u 1 0)) 0
  unfolding first_not
  counted t u p q = rw (p, q)

  -- what is left by the count
  left_by : (k : ℕ) → reached binary32 2 e ≡ k → square (decomposed binary32 2 e) ≡ square (cond (ltb k 2) (refused_at binary32 e k) (lower (factor binary32 e 2)))
  left_by k q = ap (λ (i : ℕ). square (cond (ltb i 2) (refused_at binary32 e i) (lower (factor binary32 e 2)))) q

  -- the entries of a square that is made of them
  pub reached_of : reached binary32 2 (in_square (square e)) ≡ reached binary32 2 e
  unfolding first_not factor less_dot
  reached_of = refl

  alike :
      (t u : Bool)
      → square (cond (ltb (cond t (suc (cond u 1 0)) 0) 2) (refused_at binary32 (in_square (square e)) (cond t (suc (cond u 1 0)) 0)) (lower (factor binary32 (in_square (square e)) 2)))
      ≡ square (cond (ltb (cond t (suc (cond u 1 0)) 0) 2) (refused_at binary32 e (cond t (suc (cond u 1 0)) 0)) (lower (factor binary32 e 2)))
  unfolding factor less_dot last_recip
  alike false u = refl
  alike true false = refl
  alike true true = refl

pub decomposed_of : (e : ℕ → ℕ → Float) → square (decomposed binary32 2 (in_square (square e))) ≡ square (decomposed binary32 2 e)
decomposed_of e =
    let t = pivot_taken (pivot_at binary32 e 0) in
    let u = pivot_taken (pivot_at binary32 e 1) in
    let k = cond t (suc (cond u 1 0)) 0 in
    let q : reached binary32 2 e ≡ k = counted e t u refl refl in
    left_by (in_square (square e)) k (reached_of e ∙ q) ∙ alike e t u ∙ sym (left_by e k q)

-- ---- on a value, with the roots and their reciprocals as they are called

abbrev rest : Four → Float → Float
rest s d = sub binary32 s.t3 (mul binary32 (mul binary32 s.t1 d) (mul binary32 s.t1 d))

pub first_refused :
    (s : Four) (d0 d1 : Float) → pivot_taken s.t0 ≡ false
    → Rooted s (record { taken = 0; l = record { t0 = mul binary32 s.t0 plus0; t1 = s.t1; t2 = s.t2; t3 = s.t3 }; d0 = d0; d1 = d1 })
unfolding factor less_dot last_recip
first_refused s d0 d1 h =
    let q : reached binary32 2 (in_square s) ≡ 0 = counted (in_square s) false (pivot_taken (pivot_at binary32 (in_square s) 1)) h refl in
    record { taken_is = sym q; l_is = sym (left_by (in_square s) 0 q); d_is = λ k. absurd (omega arith) }

module _ (s : Four) (h : pivot_taken s.t0 ≡ true) where
  abbrev r : Float
  r = sqrt_of binary32 s.t0

  abbrev d : Float
  d = recip_of binary32 r

  second_core : (d1 : Float) → pivot_taken (rest s d) ≡ false → Rooted s (record { taken = 1; l = record { t0 = r; t1 = s.t1; t2 = mul binary32 s.t1 d; t3 = mul binary32 (rest s d) d }; d0 = d; d1 = d1 })
  unfolding factor less_dot last_recip
  second_core d1 k =
      let q : reached binary32 2 (in_square s) ≡ 1 = counted (in_square s) true false h k in
      record { taken_is = sym q; l_is = sym (left_by (in_square s) 1 q); d_is = λ j. absurd (omega arith) }

  both_core :
      pivot_taken (rest s d) ≡ true
      → Rooted s (record { taken = 2; l = record { t0 = r; t1 = plus0; t2 = mul binary32 s.t1 d; t3 = sqrt_of binary32 (rest s d) }; d0 = d; d1 = recip_of binary32 (sqrt_of binary32 (rest s d)) })
  unfolding factor less_dot
  both_core k =
      let q : reached binary32 2 (in_square s) ≡ 2 = counted (in_square s) true true h k in
      record { taken_is = sym q; l_is = sym (left_by (in_square s) 2 q); d_is = λ j. (refl, refl) }

pub second_refused :
    (s : Four) (l d0 d1 : Float) → l ≡ sqrt_of binary32 s.t0 → d0 ≡ recip_of binary32 l → pivot_taken s.t0 ≡ true → pivot_taken (rest s d0) ≡ false
    → Rooted s (record { taken = 1; l = record { t0 = l; t1 = s.t1; t2 = mul binary32 s.t1 d0; t3 = mul binary32 (rest s d0) d0 }; d0 = d0; d1 = d1 })
second_refused s l d0 d1 ql qd h k = rw (qd, ql) (second_core s h d1 (rw (qd, ql) at k))

pub both_taken :
    (s : Four) (l d0 m d1 : Float) → l ≡ sqrt_of binary32 s.t0 → d0 ≡ recip_of binary32 l → m ≡ sqrt_of binary32 (rest s d0) → d1 ≡ recip_of binary32 m
    → pivot_taken s.t0 ≡ true → pivot_taken (rest s d0) ≡ true
    → Rooted s (record { taken = 2; l = record { t0 = l; t1 = plus0; t2 = mul binary32 s.t1 d0; t3 = m }; d0 = d0; d1 = d1 })
both_taken s l d0 m d1 ql qd qm qe h k = rw (qe, qm, qd, ql) (both_core s h (rw (qd, ql) at k))
