-- The decomposition of three by three by its four ends: the first pivot refused, the second, the third, none. Which it is decides `reached`; the numbers stored are entries changed one by one, and both sides compute to the same nine. Assumes nothing.
use mathlib.Core.Path.{◌≡◌, refl, sym, ap, ◌∙◌}
use mathlib.Core.Bool.{Bool, true, false, cond}
use mathlib.Core.List.{List}
use Prim.Native.Nat.{ℕ, suc, ◌+◌, ◌*◌, ◌<◌, ◌≤◌}
use native.Mathlib.Omega.{arith}
use lib.Dec.{ltb}
use lib.ListN.{length, set}
use lib.Ieee.{Float, Format, sub, mul}
use Rattle.numbers.specs.Reciprocal.{recip_of}
use Rattle.numbers.specs.Root.{sqrt_of}
use Rattle.numbers.specs.Sums.{plus0}
use Rattle.grids.specs.Grid.{run, grid, cell, with_cell}
use Rattle.grids.proofs.Grids.{grid-set}
use Rattle.grids.proofs.Steps.{set-cell}
use Rattle.factors.specs.Pivots.{pivot_taken}
use Rattle.factors.specs.Decomposition.{less_dot, factor, last_recip, first_not, pivot_at, refused_at, lower, reached, decomposed}
use Rattle.pivots.specs.declared.Pivot.{Pivot}
use Rattle.pivots.specs.declared.Pivot.TheVariants.{Accepted, Refused}
use Rattle.pivots.specs.Pivots.{pivot_of}
use Rattle.pivots.proofs.Cases.{accepted_is, refused_is}

-- l is the root of the pivot s, which is taken, and d the root's reciprocal
abbrev pub Rooted : Format → Float → Float → Float → Type 0
Rooted f s l d = (pivot_taken s ≡ true) × (l ≡ sqrt_of f s) × (d ≡ recip_of f (sqrt_of f s))

-- so a pivot step that accepts says
pub rooted : (f : Format) (s l d : Float) (v : Pivot) → v ≡ pivot_of f s → v ≡ Accepted l d → Rooted f s l d
rooted f s l d v p w = accepted_is (pivot_taken s) (sqrt_of f s) (recip_of f (sqrt_of f s)) s l d (sym p ∙ w)

-- and one that refuses, that the pivot is not taken
pub refused : (f : Format) (s x : Float) (v : Pivot) → v ≡ pivot_of f s → v ≡ Refused x → pivot_taken s ≡ false
refused f s x v p w = (refused_is (pivot_taken s) (sqrt_of f s) (recip_of f (sqrt_of f s)) s x (sym p ∙ w)).0

module _ (f : Format) (l : List Float) (fits : 9 ≤ length l) where
  abbrev e : ℕ → ℕ → Float
  e = cell 3 l

  -- ---- the numbers by the reciprocals

  abbrev l10 : Float → Float
  l10 d0 = mul f (e 0 1) d0

  abbrev l20 : Float → Float
  l20 d0 = mul f (e 0 2) d0

  abbrev p1 : Float → Float
  p1 d0 = sub f (e 1 1) (mul f (l10 d0) (l10 d0))

  abbrev l21 : Float → Float → Float
  l21 d0 d1 = mul f (sub f (e 1 2) (mul f (l10 d0) (l20 d0))) d1

  abbrev p2 : Float → Float → Float
  p2 d0 d1 = sub f (sub f (e 2 2) (mul f (l20 d0) (l20 d0))) (mul f (l21 d0 d1) (l21 d0 d1))

  -- ---- the buffer with the first column, and with the second

  abbrev one-column : Float → Float → List Float
  one-column l00 d0 = set (set (set l 0 l00) 3 (l10 d0)) 6 (l20 d0)

  abbrev two_columns : Float → Float → Float → Float → List Float
  two_columns l00 d0 l11 d1 = set (set (one-column l00 d0) 4 l11) 7 (l21 d0 d1)

  -- a cell more
  put : (g : ℕ → ℕ → Float) (m : List Float) (r c : ℕ) (v : Float) → r < 3 → c < 3 → m ≡ grid 3 3 g l → set m (r * 3 + c) v ≡ grid 3 3 (with_cell g r c v) l
  put g m r c v hr hc q = ap (λ (w : List Float). set w (r * 3 + c) v) q ∙ grid-set 3 3 g l r c v hr hc fits

  -- the entries with the first column, and with the second
  abbrev in_one : Float → Float → ℕ → ℕ → Float
  in_one l00 d0 = with_cell (with_cell (with_cell e 0 0 l00) 1 0 (l10 d0)) 2 0 (l20 d0)

  abbrev in_two : Float → Float → Float → Float → ℕ → ℕ → Float
  in_two l00 d0 l11 d1 = with_cell (with_cell (in_one l00 d0) 1 1 l11) 2 1 (l21 d0 d1)

  put_one : (l00 d0 : Float) → one-column l00 d0 ≡ grid 3 3 (in_one l00 d0) l
  put_one l00 d0 =
      put (with_cell (with_cell e 0 0 l00) 1 0 (l10 d0)) _ 2 0 (l20 d0) (omega arith) (omega arith)
      (put (with_cell e 0 0 l00) _ 1 0 (l10 d0) (omega arith) (omega arith)
      (set-cell 3 l 0 0 l00 (omega arith) (omega arith) fits))

  put_two : (l00 d0 l11 d1 : Float) → two_columns l00 d0 l11 d1 ≡ grid 3 3 (in_two l00 d0 l11 d1) l
  put_two l00 d0 l11 d1 =
      put (with_cell (in_one l00 d0) 1 1 l11) _ 2 1 (l21 d0 d1) (omega arith) (omega arith)
      (put (in_one l00 d0) _ 1 1 l11 (omega arith) (omega arith) (put_one l00 d0))

  -- ---- which end

  -- the count by the three tests
  counted :
      (t u v : Bool) → pivot_taken (pivot_at f e 0) ≡ t → pivot_taken (pivot_at f e 1) ≡ u → pivot_taken (pivot_at f e 2) ≡ v
      → reached f 3 e ≡ cond t (suc (cond u (suc (cond v 1 0)) 0)) 0
  unfolding first_not
  counted t u v p q r = rw (p, q, r)

  -- what is left by the count
  left_by : (k : ℕ) → reached f 3 e ≡ k → grid 3 3 (decomposed f 3 e) l ≡ grid 3 3 (cond (ltb k 3) (refused_at f e k) (lower (factor f e 3))) l
  left_by k q = ap (λ (i : ℕ). grid 3 3 (cond (ltb i 3) (refused_at f e i) (lower (factor f e 3))) l) q

  -- r comes back, and m is the buffer
  abbrev Ends : ℕ → List Float → Type 0
  Ends r m = (r ≡ reached f 3 e) × (m ≡ grid 3 3 (decomposed f 3 e) l)

  ends : (k : ℕ) (m : List Float) → reached f 3 e ≡ k → m ≡ grid 3 3 (cond (ltb k 3) (refused_at f e k) (lower (factor f e 3))) l → Ends k m
  ends k m q p = (sym q, p ∙ sym (left_by k q))

  -- ---- with the roots and the reciprocals of the definition

  abbrev r0 : Float
  r0 = sqrt_of f (e 0 0)

  abbrev q0 : Float
  q0 = recip_of f r0

  abbrev r1 : Float
  r1 = sqrt_of f (p1 q0)

  abbrev q1 : Float
  q1 = recip_of f r1

  pub first_refused : pivot_taken (e 0 0) ≡ false → Ends 0 (set l 0 (mul f (e 0 0) plus0))
  unfolding factor less_dot last_recip
  first_refused t0 =
      ends 0 _ (counted false _ _ t0 refl refl) (set-cell 3 l 0 0 _ (omega arith) (omega arith) fits)

  second_core : pivot_taken (e 0 0) ≡ true → pivot_taken (p1 q0) ≡ false → Ends 1 (set (one-column r0 q0) 4 (mul f (p1 q0) q0))
  unfolding run grid factor less_dot last_recip
  second_core t0 t1 =
      ends 1 _ (counted true false _ t0 t1 refl)
      (put (in_one r0 q0) _ 1 1 (mul f (p1 q0) q0) (omega arith) (omega arith) (put_one r0 q0))

  third_core :
      pivot_taken (e 0 0) ≡ true → pivot_taken (p1 q0) ≡ true → pivot_taken (p2 q0 q1) ≡ false
      → Ends 2 (set (two_columns r0 q0 r1 q1) 8 (mul f (p2 q0 q1) q1))
  unfolding run grid factor less_dot last_recip
  third_core t0 t1 t2 =
      ends 2 _ (counted true true false t0 t1 t2)
      (put (in_two r0 q0 r1 q1) _ 2 2 (mul f (p2 q0 q1) q1) (omega arith) (omega arith) (put_two r0 q0 r1 q1))

  abbrev in_three : Float → ℕ → ℕ → Float
  in_three l22 = with_cell (in_two r0 q0 r1 q1) 2 2 l22

  all_core :
      pivot_taken (e 0 0) ≡ true → pivot_taken (p1 q0) ≡ true → pivot_taken (p2 q0 q1) ≡ true
      → Ends 3 (set (set (set (set (two_columns r0 q0 r1 q1) 8 (sqrt_of f (p2 q0 q1))) 1 plus0) 2 plus0) 5 plus0)
  unfolding run grid factor less_dot
  all_core t0 t1 t2 =
      let l22 = sqrt_of f (p2 q0 q1) in
      ends 3 _ (counted true true true t0 t1 t2)
      (put (with_cell (with_cell (in_three l22) 0 1 plus0) 0 2 plus0) _ 1 2 plus0 (omega arith) (omega arith)
      (put (with_cell (in_three l22) 0 1 plus0) _ 0 2 plus0 (omega arith) (omega arith)
      (put (in_three l22) _ 0 1 plus0 (omega arith) (omega arith)
      (put (in_two r0 q0 r1 q1) _ 2 2 l22 (omega arith) (omega arith) (put_two r0 q0 r1 q1)))))

  -- ---- and as they are called

  pub second_refused : (l00 d0 : Float) → Rooted f (e 0 0) l00 d0 → pivot_taken (p1 d0) ≡ false → Ends 1 (set (one-column l00 d0) 4 (mul f (p1 d0) d0))
  second_refused l00 d0 k0 t1 = rw (k0.2, k0.1) (second_core k0.0 (rw k0.2 at t1))

  pub third_refused :
      (l00 d0 l11 d1 : Float) → Rooted f (e 0 0) l00 d0 → Rooted f (p1 d0) l11 d1 → pivot_taken (p2 d0 d1) ≡ false
      → Ends 2 (set (two_columns l00 d0 l11 d1) 8 (mul f (p2 d0 d1) d1))
  third_refused l00 d0 l11 d1 k0 k1 t2 = rw (k1.2, k1.1, k0.2, k0.1) (third_core k0.0 (rw k0.2 at k1.0) (rw (k1.2, k0.2) at t2))

  pub all_taken :
      (l00 d0 l11 d1 l22 d2 : Float) → Rooted f (e 0 0) l00 d0 → Rooted f (p1 d0) l11 d1 → Rooted f (p2 d0 d1) l22 d2
      → Ends 3 (set (set (set (set (two_columns l00 d0 l11 d1) 8 l22) 1 plus0) 2 plus0) 5 plus0)
  all_taken l00 d0 l11 d1 l22 d2 k0 k1 k2 =
      rw (k2.1, k1.2, k1.1, k0.2, k0.1) (all_core k0.0 (rw k0.2 at k1.0) (rw (k1.2, k0.2) at k2.0))
