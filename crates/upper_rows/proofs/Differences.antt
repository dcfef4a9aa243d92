-- A loop that takes n products off a start, one after the other, for one number or for four side by side: what holds before each turn, that a turn keeps it, and what it leaves. Assumes nothing.
use mathlib.Core.Path.{◌≡◌, ap, ◌∙◌}
use mathlib.Core.List.{List}
use Prim.Native.Nat.{ℕ, zero, suc, ◌+◌, ◌*◌, ◌<◌, ◌≤◌}
use native.Mathlib.Numerals.{add-one}
use native.Mathlib.Omega.{arith}
use lib.ListN.{get_or}
use lib.Ieee.{Float, Format, nan, sub, mul}
use Rattle.grids.specs.Grid.{cell}
use Rattle.factors.specs.Decomposition.{less_dot}
use Rattle.upper_rows.specs.Rows.{left}

-- ---- what it goes by

-- two running differences are equal where their starts and their factors are
pub less_same :
    (f : Format) (s s' : Float) (x y x' y' : ℕ → Float) (n : ℕ) → s ≡ s' → ((k : ℕ) → k < n → x k ≡ x' k) → ((k : ℕ) → k < n → y k ≡ y' k)
    → less_dot f s x y n ≡ less_dot f s' x' y' n
unfolding less_dot
less_same f s s' x y x' y' zero p q r = p
less_same f s s' x y x' y' (suc n) p q r =
    cc (less_same f s s' x y x' y' n p (λ k h. q k (omega arith)) (λ k h. r k (omega arith)), q n (omega arith), r n (omega arith))

-- what is left of entry (i, c) goes by this entry and by what columns i and c hold above row i
pub left_same :
    (f : Format) (e g : ℕ → ℕ → Float) (i c : ℕ) → e i c ≡ g i c → ((k : ℕ) → k < i → e k i ≡ g k i) → ((k : ℕ) → k < i → e k c ≡ g k c)
    → left f e i c ≡ left f g i c
left_same f e g i c p q r = less_same f (e i c) (g i c) (λ k. e k i) (λ k. e k c) (λ k. g k i) (λ k. g k c) i p q r

-- ---- one number

-- the products of k of the i rows are taken off the entry (i, c)
pub record Lessening (f : Format) (n i c : ℕ) (t : List Float) (v : Float) (k : ℕ) : Type 0 where
  pub within : k ≤ i
  pub so_far : v ≡ less_dot f (cell n t i c) (λ k. cell n t k i) (λ k. cell n t k c) k

module _ {f : Format} {n i c : ℕ} {t : List Float} where
  -- before the first turn it is the entry, at its place p
  pub begun : {v : Float} {p : ℕ} → v ≡ get_or t p nan → p ≡ i * n + c → Lessening f n i c t v 0
  unfolding less_dot
  begun e q = record { within = omega arith; so_far = e ∙ ap (λ (p : ℕ). get_or t p nan) q }

  -- a turn takes off the next product, whose right factor is at p
  pub lessened :
      {v v' : Float} {k p : ℕ} → Lessening f n i c t v k → k < i → v' ≡ sub f v (mul f (cell n t k i) (get_or t p nan)) → p ≡ k * n + c
      → Lessening f n i c t v' (k + 1)
  unfolding less_dot
  lessened {v} {v'} {k} {p} h lt e q = record {
    within = omega arith;
    so_far = rw add-one (
        e ∙ ap (λ (w : Float). sub f w (mul f (cell n t k i) (get_or t p nan))) h.so_far
        ∙ ap (λ (p : ℕ). sub f (less_dot f (cell n t i c) (λ k. cell n t k i) (λ k. cell n t k c) k) (mul f (cell n t k i) (get_or t p nan))) q
        );
  }

  -- after the last turn it is what is left
  pub all_lessened : {v : Float} {k : ℕ} → Lessening f n i c t v k → i ≤ k → v ≡ left f (cell n t) i c
  all_lessened {v} {k} h le = let e : k ≡ i = omega (arith, h.within) in h.so_far ∙ ap (less_dot f (cell n t i c) (λ k. cell n t k i) (λ k. cell n t k c)) e

-- ---- four side by side

-- the same of the entries (i, c) to (i, c + 3)
pub record LesseningFour (f : Format) (n i c : ℕ) (t : List Float) (v0 v1 v2 v3 : Float) (k : ℕ) : Type 0 where
  pub first : Lessening f n i c t v0 k
  pub second : Lessening f n i (c + 1) t v1 k
  pub third : Lessening f n i (c + 2) t v2 k
  pub fourth : Lessening f n i (c + 3) t v3 k

module _ {f : Format} {n i c : ℕ} {t : List Float} where
  -- before the first turn they are the entries
  pub four_begun :
      {v0 v1 v2 v3 : Float} → (v0 ≡ get_or t (i * n + c) nan) × (v1 ≡ get_or t (i * n + c + 1) nan) × (v2 ≡ get_or t (i * n + c + 2) nan) × (v3 ≡ get_or t (i * n + c + 3) nan)
      → LesseningFour f n i c t v0 v1 v2 v3 0
  four_begun e = record {
    first = begun e.0 (omega arith);
    second = begun e.1 (omega arith);
    third = begun e.2 (omega arith);
    fourth = begun e.3 (omega arith);
  }

  -- a turn takes off each its next product
  pub four-lessened :
      {v0 v1 v2 v3 w0 w1 w2 w3 : Float} {k : ℕ} → LesseningFour f n i c t v0 v1 v2 v3 k → k < i
      → (w0 ≡ sub f v0 (mul f (cell n t k i) (get_or t (k * n + c) nan))) × (w1 ≡ sub f v1 (mul f (cell n t k i) (get_or t (k * n + c + 1) nan)))
      × (w2 ≡ sub f v2 (mul f (cell n t k i) (get_or t (k * n + c + 2) nan))) × (w3 ≡ sub f v3 (mul f (cell n t k i) (get_or t (k * n + c + 3) nan)))
      → LesseningFour f n i c t w0 w1 w2 w3 (k + 1)
  four-lessened h lt e = record {
    first = lessened h.first lt e.0 (omega arith);
    second = lessened h.second lt e.1 (omega arith);
    third = lessened h.third lt e.2 (omega arith);
    fourth = lessened h.fourth lt e.3 (omega arith);
  }

  -- after the last turn they are what is left
  pub all_four :
      {v0 v1 v2 v3 : Float} {k : ℕ} → LesseningFour f n i c t v0 v1 v2 v3 k → i ≤ k
      → (v0 ≡ left f (cell n t) i c) × (v1 ≡ left f (cell n t) i (c + 1)) × (v2 ≡ left f (cell n t) i (c + 2)) × (v3 ≡ left f (cell n t) i (c + 3))
  all_four h le = (all_lessened h.first le, all_lessened h.second le, all_lessened h.third le, all_lessened h.fourth le)
