-- The lower factor of three by three and the inverse from it, as numbers, by the entries on and above the diagonal: the steps of R15 and R16, one by one. Definitions only.
use Rattle.std.specs.Prelude.{cond, ℕ, zero, suc, Float, Option, Some, None}
use Rattle.std.specs.Float.{Format}
use Rattle.std.specs.Float.Ieee.{add, sub, mul, neg}
use Rattle.numbers.specs.Reciprocal.{one, recip_of}
use Rattle.numbers.specs.Root.{sqrt_of}
use Rattle.numbers.specs.Sums.{plus0}
use Rattle.factors.specs.Pivots.{pivot_taken}
use Rattle.three_solved.specs.declared.Solved.{Solved}

-- three numbers, and three by three of them
abbrev pub in_row : Float → Float → Float → ℕ → Float
in_row a b c zero = a
in_row a b c (suc zero) = b
in_row a b c (suc (suc k)) = c

-- the factor that v has
abbrev pub factor_in : Solved → ℕ → ℕ → Float
factor_in v zero = in_row v.l00 plus0 plus0
factor_in v (suc zero) = in_row v.l10 v.l11 plus0
factor_in v (suc (suc k)) = in_row v.l20 v.l21 v.l22

-- the inverse that v has
abbrev pub inverse_in : Solved → ℕ → ℕ → Float
inverse_in v zero = in_row v.i00 v.i01 v.i02
inverse_in v (suc zero) = in_row v.i01 v.i11 v.i12
inverse_in v (suc (suc k)) = in_row v.i02 v.i12 v.i22

-- the matrix whose entries on and above the diagonal are given
module _ (f : Format) (s00 s01 s02 s11 s12 s22 : Float) where
  -- ---- the factor, and the reciprocals of its diagonal

  abbrev l00 : Float
  l00 = sqrt_of f s00

  abbrev d0 : Float
  d0 = recip_of f l00

  abbrev l10 : Float
  l10 = mul f s01 d0

  abbrev l20 : Float
  l20 = mul f s02 d0

  -- the second pivot
  abbrev p1 : Float
  p1 = sub f s11 (mul f l10 l10)

  abbrev l11 : Float
  l11 = sqrt_of f p1

  abbrev d1 : Float
  d1 = recip_of f l11

  abbrev l21 : Float
  l21 = mul f (sub f s12 (mul f l10 l20)) d1

  -- the third
  abbrev p2 : Float
  p2 = sub f (sub f s22 (mul f l20 l20)) (mul f l21 l21)

  abbrev l22 : Float
  l22 = sqrt_of f p2

  abbrev d2 : Float
  d2 = recip_of f l22

  -- ---- the first pass of the inverse, and the second

  abbrev a01 : Float
  a01 = mul f (add f plus0 (mul f (neg l10) (mul f one d0))) d1

  abbrev a02 : Float
  a02 = mul f (add f plus0 (add f (mul f (neg l20) (mul f one d0)) (mul f (neg l21) a01))) d2

  abbrev a12 : Float
  a12 = mul f (add f plus0 (mul f (neg l21) (mul f one d1))) d2

  abbrev i02 : Float
  i02 = mul f a02 d2

  abbrev i12 : Float
  i12 = mul f a12 d2

  abbrev i22 : Float
  i22 = mul f (mul f one d2) d2

  abbrev i01 : Float
  i01 = mul f (add f a01 (mul f (neg l21) i02)) d1

  abbrev i11 : Float
  i11 = mul f (add f (mul f one d1) (mul f (neg l21) i12)) d1

  abbrev i00 : Float
  i00 = mul f (add f (mul f one d0) (add f (mul f (neg l10) i01) (mul f (neg l20) i02))) d0

  -- all of it, where every pivot is taken
  unfoldable pub solved_of : Option Solved
  solved_of =
      cond (pivot_taken s00)
      (cond (pivot_taken p1)
      (cond (pivot_taken p2)
      (Some record {
        l00 = l00;
        l10 = l10;
        l11 = l11;
        l20 = l20;
        l21 = l21;
        l22 = l22;
        i00 = i00;
        i01 = i01;
        i02 = i02;
        i11 = i11;
        i12 = i12;
        i22 = i22;
      })
      None) None) None
