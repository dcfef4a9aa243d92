-- The inverse of three by three from the factor's entries below the diagonal and the reciprocals on it, entry by entry; stored row by row it is the general definition's, which computes to the same sums. Assumes nothing.
use mathlib.Core.Path.{◌≡◌, refl}
use mathlib.Core.List.{List}
use lib.ListN.{set}
use lib.Ieee.{Float, Format, add, mul, neg}
use Rattle.numbers.specs.Reciprocal.{one, recip_of}
use Rattle.numbers.specs.Sums.{plus0, sum_from}
use Rattle.grids.specs.Grid.{run, grid, cell}
use Rattle.factors.specs.Inverse.{plus_sum, solved, back, inverse}

module _ (f : Format) (l10 l20 l21 d0 d1 d2 : Float) where
  -- ---- what the first pass leaves of the upper triangle

  abbrev a00 : Float
  a00 = mul f one d0

  abbrev a01 : Float
  a01 = mul f (add f plus0 (mul f (neg l10) a00)) d1

  abbrev a11 : Float
  a11 = mul f one d1

  abbrev a02 : Float
  a02 = mul f (add f plus0 (add f (mul f (neg l20) a00) (mul f (neg l21) a01))) d2

  abbrev a12 : Float
  a12 = mul f (add f plus0 (mul f (neg l21) a11)) d2

  abbrev a22 : Float
  a22 = mul f one d2

  -- ---- and the second, which is the inverse

  abbrev i02 : Float
  i02 = mul f a02 d2

  abbrev i12 : Float
  i12 = mul f a12 d2

  abbrev i22 : Float
  i22 = mul f a22 d2

  abbrev i01 : Float
  i01 = mul f (add f a01 (mul f (neg l21) i02)) d1

  abbrev i11 : Float
  i11 = mul f (add f a11 (mul f (neg l21) i12)) d1

  abbrev i00 : Float
  i00 = mul f (add f a00 (add f (mul f (neg l10) i01) (mul f (neg l20) i02))) d0

  -- ---- in the buffer b

  abbrev first-four : List Float → List Float
  first-four b = set (set (set (set b 0 i00) 1 i01) 2 i02) 3 i01

  abbrev next_four : List Float → List Float
  next_four b = set (set (set (set b 4 i11) 5 i12) 6 i02) 7 i12

module _ (f : Format) (l b : List Float) where
  abbrev L10 : Float
  L10 = cell 3 l 1 0

  abbrev L20 : Float
  L20 = cell 3 l 2 0

  abbrev L21 : Float
  L21 = cell 3 l 2 1

  -- all nine, the reciprocals being the diagonal's
  nine :
      let d0 = recip_of f (cell 3 l 0 0) in
      let d1 = recip_of f (cell 3 l 1 1) in
      let d2 = recip_of f (cell 3 l 2 2) in
      set (next_four f L10 L20 L21 d0 d1 d2 (first-four f L10 L20 L21 d0 d1 d2 b)) 8 (i22 f L10 L20 L21 d0 d1 d2) ≡ grid 3 3 (inverse f 3 (cell 3 l) (cell 3 b)) b
  unfolding run grid plus_sum solved back sum_from
  nine = refl

  pub inverse_put :
      (d0 d1 d2 : Float) (m n : List Float) → d0 ≡ recip_of f (cell 3 l 0 0) → d1 ≡ recip_of f (cell 3 l 1 1) → d2 ≡ recip_of f (cell 3 l 2 2)
      → m ≡ first-four f L10 L20 L21 d0 d1 d2 b → n ≡ next_four f L10 L20 L21 d0 d1 d2 m
      → set n 8 (i22 f L10 L20 L21 d0 d1 d2) ≡ grid 3 3 (inverse f 3 (cell 3 l) (cell 3 b)) b
  inverse_put d0 d1 d2 m n q0 q1 q2 p q = rw (q, p, q0, q1, q2) nine
