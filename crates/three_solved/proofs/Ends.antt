-- The numbers of three by three by their four ends: the first pivot refused, the second, the third, none. The tests say which it is; the roots and the reciprocals are those that were called. Assumes nothing.
use mathlib.Core.Path.{◌≡◌, refl}
use mathlib.Core.Bool.{true, false}
use Rattle.std.specs.Prelude.{Some, None}
use lib.Ieee.{Float, Format, add, sub, mul, neg}
use Rattle.numbers.specs.Reciprocal.{one, recip_of}
use Rattle.numbers.specs.Root.{sqrt_of}
use Rattle.numbers.specs.Sums.{plus0}
use Rattle.factors.specs.Pivots.{pivot_taken}
use Rattle.three_solved.specs.declared.Solved.{Solved}
use Rattle.three_solved.specs.Solved.{solved_of}

-- l is the root of the pivot s, which is taken, and d the root's reciprocal
abbrev pub Rooted : Format → Float → Float → Float → Type 0
Rooted f s l d = (pivot_taken s ≡ true) × (l ≡ sqrt_of f s) × (d ≡ recip_of f l)

-- ---- the inverse from the factor's entries below the diagonal and the reciprocals on it

module _ (f : Format) (l10 l20 l21 d0 d1 d2 : Float) where
  abbrev a01 : Float
  a01 = mul f (add f plus0 (mul f (neg l10) (mul f one d0))) d1

  abbrev i02 : Float
  i02 = mul f (mul f (add f plus0 (add f (mul f (neg l20) (mul f one d0)) (mul f (neg l21) a01))) d2) d2

  abbrev i12 : Float
  i12 = mul f (mul f (add f plus0 (mul f (neg l21) (mul f one d1))) d2) d2

  abbrev i01 : Float
  i01 = mul f (add f a01 (mul f (neg l21) i02)) d1

  abbrev with_inverse : Float → Float → Float → Solved
  with_inverse l00 l11 l22 = record {
    l00 = l00;
    l10 = l10;
    l11 = l11;
    l20 = l20;
    l21 = l21;
    l22 = l22;
    i00 = mul f (add f (mul f one d0) (add f (mul f (neg l10) i01) (mul f (neg l20) i02))) d0;
    i01 = i01;
    i02 = i02;
    i11 = mul f (add f (mul f one d1) (mul f (neg l21) i12)) d1;
    i12 = i12;
    i22 = mul f (mul f one d2) d2;
  }

module _ (f : Format) (s00 s01 s02 s11 s12 s22 : Float) where
  -- ---- the factor's numbers by the reciprocals

  abbrev l10 : Float → Float
  l10 d0 = mul f s01 d0

  abbrev l20 : Float → Float
  l20 d0 = mul f s02 d0

  abbrev p1 : Float → Float
  p1 d0 = sub f s11 (mul f (l10 d0) (l10 d0))

  abbrev l21 : Float → Float → Float
  l21 d0 d1 = mul f (sub f s12 (mul f (l10 d0) (l20 d0))) d1

  abbrev p2 : Float → Float → Float
  p2 d0 d1 = sub f (sub f s22 (mul f (l20 d0) (l20 d0))) (mul f (l21 d0 d1) (l21 d0 d1))

  abbrev all : Float → Float → Float → Float → Float → Float → Solved
  all l00 d0 l11 d1 l22 d2 = with_inverse f (l10 d0) (l20 d0) (l21 d0 d1) d0 d1 d2 l00 l11 l22

  -- ---- with the roots and the reciprocals of the definition

  abbrev r0 : Float
  r0 = sqrt_of f s00

  abbrev q0 : Float
  q0 = recip_of f r0

  abbrev r1 : Float
  r1 = sqrt_of f (p1 q0)

  abbrev q1 : Float
  q1 = recip_of f r1

  abbrev r2 : Float
  r2 = sqrt_of f (p2 q0 q1)

  abbrev q2 : Float
  q2 = recip_of f r2

  abbrev pub all_of : Solved
  all_of = all r0 q0 r1 q1 r2 q2

  first_core : pivot_taken s00 ≡ false → None ≡ solved_of f s00 s01 s02 s11 s12 s22
  unfolding solved_of
  first_core t0 = rw t0 refl

  second_core : pivot_taken s00 ≡ true → pivot_taken (p1 q0) ≡ false → None ≡ solved_of f s00 s01 s02 s11 s12 s22
  unfolding solved_of
  second_core t0 t1 = rw (t0, t1) refl

  third_core : pivot_taken s00 ≡ true → pivot_taken (p1 q0) ≡ true → pivot_taken (p2 q0 q1) ≡ false → None ≡ solved_of f s00 s01 s02 s11 s12 s22
  unfolding solved_of
  third_core t0 t1 t2 = rw (t0, t1, t2) refl

  all_core : pivot_taken s00 ≡ true → pivot_taken (p1 q0) ≡ true → pivot_taken (p2 q0 q1) ≡ true → Some all_of ≡ solved_of f s00 s01 s02 s11 s12 s22
  unfolding solved_of
  all_core t0 t1 t2 = rw (t0, t1, t2) refl

  -- ---- and as they are called

  pub first_refused : pivot_taken s00 ≡ false → None ≡ solved_of f s00 s01 s02 s11 s12 s22
  first_refused t0 = first_core t0

  pub second_refused : (l00 d0 : Float) → Rooted f s00 l00 d0 → pivot_taken (p1 d0) ≡ false → None ≡ solved_of f s00 s01 s02 s11 s12 s22
  second_refused l00 d0 k0 t1 = second_core k0.0 (rw (k0.2, k0.1) at t1)

  pub third_refused :
      (l00 d0 l11 d1 : Float) → Rooted f s00 l00 d0 → Rooted f (p1 d0) l11 d1 → pivot_taken (p2 d0 d1) ≡ false
      → None ≡ solved_of f s00 s01 s02 s11 s12 s22
  third_refused l00 d0 l11 d1 k0 k1 t2 =
      third_core k0.0 (rw (k0.2, k0.1) at k1.0) (rw (k1.2, k1.1, k0.2, k0.1) at t2)

  pub all_taken :
      (l00 d0 l11 d1 l22 d2 : Float) → Rooted f s00 l00 d0 → Rooted f (p1 d0) l11 d1 → Rooted f (p2 d0 d1) l22 d2
      → Some (all l00 d0 l11 d1 l22 d2) ≡ solved_of f s00 s01 s02 s11 s12 s22
  all_taken l00 d0 l11 d1 l22 d2 k0 k1 k2 =
      rw (k2.2, k2.1, k1.2, k1.1, k0.2, k0.1) (all_core k0.0 (rw (k0.2, k0.1) at k1.0) (rw (k1.2, k1.1, k0.2, k0.1) at k2.0))
