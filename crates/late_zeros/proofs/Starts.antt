-- Sums that are started last: the code's sum is the definition's, for numbers that the format holds, as products are. By the laws of `numbers/proofs/Zeros.antt`. Assumes nothing.
use mathlib.Core.Path.{◌≡◌, sym, ap, ◌∙◌}
use lib.Dec.{T}
use lib.Ieee.{Float, Format, add, mul, fits}
use lib.Ieee.Fits.{add-fits, mul-fits}
use Rattle.numbers.specs.Sums.{plus0}
use Rattle.numbers.proofs.Zeros.{start_last, start_later, once_started, twice_started, later_started}

-- 0 + a·b + c·d
pub ordered : (f : Format) (a b c d : Float) → add f plus0 (add f (mul f a b) (mul f c d)) ≡ add f (add f plus0 (mul f a b)) (mul f c d)
ordered f a b c d = sym (start_last f (mul f a b) (mul f c d) (mul-fits f a b) (mul-fits f c d))

module _ (f : Format) (u a : Float) (h : T (fits f u)) where
  -- 0 + (0 + u)·a + q
  pub one_more : (q : Float) → T (fits f q) → add f (mul f u a) (add f plus0 q) ≡ add f (add f plus0 (mul f (add f plus0 u) a)) q
  one_more q l = sym (ap (λ (x : Float). add f x q) (once_started f u a h) ∙ start_later f (mul f u a) q (mul-fits f u a) l)

  -- 0 + (0 + u)·a + (0 + v)·b + q
  pub two_more :
      (v b q : Float) → T (fits f v) → T (fits f q)
      → add f (add f (mul f u a) (mul f v b)) (add f plus0 q) ≡ add f (add f (add f plus0 (mul f (add f plus0 u) a)) (mul f (add f plus0 v) b)) q
  two_more v b q k l =
      let p = mul f u a in
      let r = mul f v b in
      sym
      (ap (λ (x : Float). add f (add f x (mul f (add f plus0 v) b)) q) (once_started f u a h)
      ∙ ap (λ (x : Float). add f x q) (later_started f p v b (mul-fits f u a) k ∙ start_last f p r (mul-fits f u a) (mul-fits f v b))
      ∙ start_later f (add f p r) q (add-fits f p r) l)

  -- 0 + (0 + u)·a
  pub once : add f plus0 (mul f u a) ≡ add f plus0 (mul f (add f plus0 u) a)
  once = sym (once_started f u a h)

  -- 0 + (0 + (0 + u)·a)·(0 + v)
  pub twice : (v : Float) → T (fits f v) → add f plus0 (mul f (mul f u a) v) ≡ add f plus0 (mul f (add f plus0 (mul f (add f plus0 u) a)) (add f plus0 v))
  twice v k =
      sym
      (ap (λ (x : Float). add f plus0 (mul f x (add f plus0 v))) (once_started f u a h)
      ∙ twice_started f (mul f u a) v (mul-fits f u a) k)
