-- A loop that adds up n terms in their order, from a given start, for four totals side by side, or from the first term: what holds before each turn, that a turn keeps it, and what it leaves. Assumes nothing.
use mathlib.Core.Path.{◌≡◌, refl, sym, ap, ap₂, ◌∙◌}
use mathlib.Core.List.{List}
use Prim.Native.Nat.{ℕ, ◌+◌, ◌*◌, ◌<◌, ◌≤◌}
use native.Mathlib.Omega.{arith}
use lib.ListN.{get_or}
use lib.Ieee.{Float, Format, nan, binary32, of_bits, add, mul}
use Rattle.numbers.specs.Sums.{plus0, sum_from, sum_of_first}
use Rattle.numbers.proofs.Sums.{sum_next, first_next}
use Rattle.numbers.proofs.Commute.{factors_commute}
use Rattle.entries.proofs.Places.{Four}

-- the bits of +0 are all 0
pub zero_bits : of_bits binary32 0 ≡ plus0
unfolding of_bits
zero_bits = refl

-- ---- a term, at the place where the code reads its factor

-- the right factor, at p, which is q
pub right_at : (f : Format) (x : Float) (l : List Float) {p q : ℕ} → p ≡ q → mul f x (get_or l p nan) ≡ mul f x (get_or l q nan)
right_at f x l e = ap (λ (i : ℕ). mul f x (get_or l i nan)) e

-- the left factor, at p, which is q, where the code has it on the right
pub left_at : (f : Format) (y : Float) (l : List Float) {p q : ℕ} → p ≡ q → mul f y (get_or l p nan) ≡ mul f (get_or l q nan) y
left_at f y l {p} {q} e = right_at f y l e ∙ factors_commute f y (get_or l q nan)

-- ---- from a start

-- k of the n terms are added to the start
pub record Adding (f : Format) (start : Float) (t : ℕ → Float) (n : ℕ) (total : Float) (k : ℕ) : Type 0 where
  pub within : k ≤ n
  pub so_far : total ≡ sum_from f start t k

module _ {f : Format} {start : Float} {t : ℕ → Float} {n : ℕ} where
  -- before the first turn the total is the start
  pub begun : {total : Float} → total ≡ start → Adding f start t n total 0
  unfolding sum_from
  begun e = record { within = omega arith; so_far = e }

  -- a turn adds the next term
  pub added : {total x total' : Float} {k : ℕ} → Adding f start t n total k → k < n → total' ≡ add f total x → x ≡ t k → Adding f start t n total' (k + 1)
  added {k = k} h l a e = record { within = omega arith; so_far = a ∙ ap₂ (add f) h.so_far e ∙ sym (sum_next f start t k) }

  -- after the last turn the total is the sum
  pub all_added : {total : Float} {k : ℕ} → Adding f start t n total k → n ≤ k → total ≡ sum_from f start t n
  all_added {k = k} h l = let e : k ≡ n = omega (arith, h.within) in h.so_far ∙ ap (sum_from f start t) e

-- ---- four at once, each from +0

-- k of the n terms of four totals are added up: those of y with the numbers of l at the places of j, and of the three after it
pub record AddingFour (f : Format) (y : ℕ → Float) (l : List Float) (place : ℕ → ℕ → ℕ) (n j : ℕ) (t0 t1 t2 t3 : Float) (k : ℕ) : Type 0 where
  pub first : Adding f plus0 (λ i. mul f (y i) (get_or l (place j i) nan)) n t0 k
  pub second : Adding f plus0 (λ i. mul f (y i) (get_or l (place (j + 1) i) nan)) n t1 k
  pub third : Adding f plus0 (λ i. mul f (y i) (get_or l (place (j + 2) i) nan)) n t2 k
  pub fourth : Adding f plus0 (λ i. mul f (y i) (get_or l (place (j + 3) i) nan)) n t3 k

module _ {f : Format} {y : ℕ → Float} {l : List Float} {place : ℕ → ℕ → ℕ} {n j : ℕ} where
  -- before the first turn the totals are +0
  pub four_begun : {t0 t1 t2 t3 : Float} → t0 ≡ plus0 → t1 ≡ plus0 → t2 ≡ plus0 → t3 ≡ plus0 → AddingFour f y l place n j t0 t1 t2 t3 0
  four_begun e0 e1 e2 e3 = record { first = begun e0; second = begun e1; third = begun e2; fourth = begun e3 }

  -- a turn adds to each its next term, read at p and, each w further, at three more places
  pub four_added :
      {t0 t1 t2 t3 u0 u1 u2 u3 v0 v1 v2 v3 : Float} {k p w : ℕ} → AddingFour f y l place n j t0 t1 t2 t3 k → k < n
      → (v0 ≡ add f t0 u0) × (v1 ≡ add f t1 u1) × (v2 ≡ add f t2 u2) × (v3 ≡ add f t3 u3)
      → (u0 ≡ mul f (y k) (get_or l p nan)) × (u1 ≡ mul f (y k) (get_or l (p + w) nan)) × (u2 ≡ mul f (y k) (get_or l (p + w + w) nan)) × (u3 ≡ mul f (y k) (get_or l (p + w + w + w) nan))
      → Four p w (place j k) (place (j + 1) k) (place (j + 2) k) (place (j + 3) k)
      → AddingFour f y l place n j v0 v1 v2 v3 (k + 1)
  four_added {k = k} h lt s u at = record {
    first = added h.first lt s.0 (u.0 ∙ right_at f (y k) l at.first);
    second = added h.second lt s.1 (u.1 ∙ right_at f (y k) l at.second);
    third = added h.third lt s.2 (u.2 ∙ right_at f (y k) l at.third);
    fourth = added h.fourth lt s.3 (u.3 ∙ right_at f (y k) l at.fourth);
  }

  -- the same where the four places lie side by side from p on
  four-gained :
      {t0 t1 t2 t3 v0 v1 v2 v3 : Float} {k p : ℕ} → AddingFour f y l place n j t0 t1 t2 t3 k → k < n
      → (v0 ≡ add f t0 (mul f (y k) (get_or l p nan))) × (v1 ≡ add f t1 (mul f (y k) (get_or l (p + 1) nan)))
      × (v2 ≡ add f t2 (mul f (y k) (get_or l (p + 2) nan))) × (v3 ≡ add f t3 (mul f (y k) (get_or l (p + 3) nan)))
      → p ≡ place j k → p + 1 ≡ place (j + 1) k → p + 2 ≡ place (j + 2) k → p + 3 ≡ place (j + 3) k
      → AddingFour f y l place n j v0 v1 v2 v3 (k + 1)
  four-gained {k = k} h lt s p0 p1 p2 p3 = record {
    first = added h.first lt s.0 (right_at f (y k) l p0);
    second = added h.second lt s.1 (right_at f (y k) l p1);
    third = added h.third lt s.2 (right_at f (y k) l p2);
    fourth = added h.fourth lt s.3 (right_at f (y k) l p3);
  }

  -- after the last turn the totals are the sums
  pub all_four :
      {t0 t1 t2 t3 : Float} {k : ℕ} → AddingFour f y l place n j t0 t1 t2 t3 k → n ≤ k
      → (t0 ≡ sum_from f plus0 (λ i. mul f (y i) (get_or l (place j i) nan)) n) × (t1 ≡ sum_from f plus0 (λ i. mul f (y i) (get_or l (place (j + 1) i) nan)) n)
      × (t2 ≡ sum_from f plus0 (λ i. mul f (y i) (get_or l (place (j + 2) i) nan)) n) × (t3 ≡ sum_from f plus0 (λ i. mul f (y i) (get_or l (place (j + 3) i) nan)) n)
  all_four {k = k} h le = (all_added h.first le, all_added h.second le, all_added h.third le, all_added h.fourth le)

module _ {f : Format} {y : ℕ → Float} {l : List Float} {n j : ℕ} (cols : ℕ) where
  -- the four places in row k of a matrix of so many columns, where they begin at p
  pub four_in_row :
      {t0 t1 t2 t3 v0 v1 v2 v3 : Float} {k p : ℕ} → AddingFour f y l (λ i k. k * cols + i) n j t0 t1 t2 t3 k → k < n
      → (v0 ≡ add f t0 (mul f (y k) (get_or l p nan))) × (v1 ≡ add f t1 (mul f (y k) (get_or l (p + 1) nan)))
      × (v2 ≡ add f t2 (mul f (y k) (get_or l (p + 2) nan))) × (v3 ≡ add f t3 (mul f (y k) (get_or l (p + 3) nan)))
      → p ≡ k * cols + j → AddingFour f y l (λ i k. k * cols + i) n j v0 v1 v2 v3 (k + 1)
  four_in_row h lt s e = four-gained h lt s e (omega arith) (omega arith) (omega arith)

-- ---- from the first term

-- k of the n terms are added up, the first without a start
pub record AddingOn (f : Format) (t : ℕ → Float) (n : ℕ) (total : Float) (k : ℕ) : Type 0 where
  pub some : 0 < k
  pub within : k ≤ n
  pub so_far : total ≡ sum_of_first f t k

module _ {f : Format} {t : ℕ → Float} {n : ℕ} where
  -- before the first turn the total is the first term
  pub begun_on : {total : Float} → 1 ≤ n → total ≡ t 0 → AddingOn f t n total 1
  unfolding sum_from
  begun_on l e = record { some = omega arith; within = l; so_far = e }

  -- a turn adds the next term
  pub added_on : {total x total' : Float} {k : ℕ} → AddingOn f t n total k → k < n → total' ≡ add f total x → x ≡ t k → AddingOn f t n total' (k + 1)
  added_on {k = k} h l a e = record {
    some = omega arith;
    within = omega arith;
    so_far = a ∙ ap₂ (add f) h.so_far e ∙ sym (first_next f t k h.some);
  }

  -- after the last turn the total is the sum
  pub all_added_on : {total : Float} {k : ℕ} → AddingOn f t n total k → n ≤ k → total ≡ sum_of_first f t n
  all_added_on {k = k} h l = let e : k ≡ n = omega (arith, h.within) in h.so_far ∙ ap (sum_of_first f t) e
