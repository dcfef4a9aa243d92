-- What is finite and above zero has a root that is, and that root has a reciprocal that is (R9, R10), in either format.
-- The root is s·2^k of the format's smallest values, with s at least 2^(p−1). So its reciprocal is a fraction between two powers of two that the format holds, and rounding keeps the order. Assumes nothing.
use mathlib.Core.Path.{◌≡◌, refl, sym, ap, ◌∙◌, subst}
use mathlib.Core.Bool.{true, false, true≢false}
use Prim.Native.Nat.{ℕ, zero, suc, ◌+◌, ◌-◌, ◌*◌, ◌^◌, ◌≤◌, ◌<◌}
use native.Mathlib.Nat.{le_trans, le_of_eq, le_of_lt, lt_of_lt_of_le, lt_irrefl, zero-lt-suc, zero-mul, one-mul, mul-one, mul_comm, mul-le-mul_left, mul-pos}
use native.Mathlib.Omega.{arith}
use borrow.Author.Tests.{ne_eqb}
use lib.Dec.{T}
use lib.Pow.{pow-add, pow_pos}
use lib.Ieee.{Float, nan, inf, fin, Format, binary32, binary64, prec, emax, low, up, down, round, div, fits}
use lib.Ieee.Fits.{up_pos, down_pos}
use lib.Ieee.Exact.{HasValue}
use lib.Ieee.Scale.{round_same}
use lib.Ieee.Order.{round_mono}
use lib.Ieee.Positive.{positive, positive_of_value, between}
use Rattle.numbers.specs.Reciprocal.{recip_of}
use Rattle.numbers.specs.Root.{sqrt_of}
use Rattle.numbers.proofs.Exists.{Rooted, sqrt_rooted, root_units}

-- the reciprocal of a value that is a / c is c / a, rounded
recip_is : (f : Format) (y : Float) (a c : ℕ) → 0 < a → HasValue y false a c → recip_of f y ≡ round f false c a
unfolding div
recip_is f nan a c A h = absurd h
recip_is f (inf t) a c A h = absurd h
recip_is f (fin t zero e) a c A h =
    absurd (lt_irrefl 0 (subst (λ (x : ℕ). 0 < x) (sym h.1 ∙ ap (λ (x : ℕ). x * c) (zero-mul (up e)) ∙ zero-mul c) (mul-pos A (down_pos e))))
recip_is f (fin true (suc m) e) a c A h = absurd (true≢false h.0)
recip_is f (fin false (suc m) e) a c A h =
    rw (ne_eqb (suc m) 0 (λ (z : suc m ≡ 0). omega arith))
    (round_same f false (1 * 1 * down e) (suc m * up e * 1) c a (mul-pos (mul-pos (zero-lt-suc m) (up_pos e)) (zero-lt-suc 0)) A
    (ap (λ (x : ℕ). x * a) (one-mul (down e)) ∙ mul_comm (down e) a ∙ sym h.1 ∙ mul_comm (suc m * up e) c ∙ ap (λ (x : ℕ). c * x) (sym (mul-one (suc m * up e)))))

-- ---- the two powers of two: 2^−(emax + 1) and 2^(emax − 1)

least_positive : (f : Format) → T (positive (round f false 1 (2 ^ suc (emax f))))
unfolding round
least_positive binary32 = tt
least_positive binary64 = tt

most_positive : (f : Format) → T (positive (round f false (2 ^ (emax f - 1)) 1))
unfolding round
most_positive binary32 = tt
most_positive binary64 = tt

-- in units, what has p digits or more is 2^−(emax − 1) or more
digits : (f : Format) → low f ≡ emax f - 1 + (prec f - 1)
digits binary32 = refl
digits binary64 = refl

-- ---- the root of x, and the reciprocal of that

module _ (f : Format) (x : Float) (r : Rooted f x) where
  -- the root in units is 2^(p−1) at least
  long : 2 ^ (prec f - 1) ≤ r.s * 2 ^ r.k
  long = le_trans r.root.least (le_trans (le_of_eq (sym (mul-one r.s))) (mul-le-mul_left r.s (pow_pos r.k)))

  some : 0 < r.s * 2 ^ r.k
  some = lt_of_lt_of_le (pow_pos (prec f - 1)) long

  rooted_positive : T (positive (sqrt_of f x))
  rooted_positive = positive_of_value (sqrt_of f x) (r.s * 2 ^ r.k) (2 ^ low f) (root_units f x r) some

  reciprocal_positive : T (positive (recip_of f (sqrt_of f x)))
  reciprocal_positive =
      let a = r.s * 2 ^ r.k in
      let c = 2 ^ low f in
      subst (λ (z : Float). T (positive z)) (sym (recip_is f (sqrt_of f x) a c some (root_units f x r)))
      (between (round f false 1 (2 ^ suc (emax f))) (round f false c a) (round f false (2 ^ (emax f - 1)) 1) (least_positive f) (most_positive f)
      (round_mono f 1 (2 ^ suc (emax f)) c a (pow_pos (suc (emax f))) some (le_trans (le_of_eq (one-mul a)) (le_trans (le_of_lt r.fine) (le_of_eq (pow-add 2 (low f) (suc (emax f)))))))
      (round_mono f c a (2 ^ (emax f - 1)) 1 some (zero-lt-suc 0)
      (le_trans (le_of_eq (mul-one c ∙ ap (λ (n : ℕ). 2 ^ n) (digits f) ∙ pow-add 2 (emax f - 1) (prec f - 1))) (mul-le-mul_left (2 ^ (emax f - 1)) long))))

-- Of a value of the format that is finite and above zero, the root is finite and above zero ..
pub root_positive : (f : Format) (x : Float) → T (positive x) → T (fits f x) → T (positive (sqrt_of f x))
root_positive f x p t = rooted_positive f x (sqrt_rooted f x p t)

-- .. and so is the root's reciprocal.
pub recip_root_positive : (f : Format) (x : Float) → T (positive x) → T (fits f x) → T (positive (recip_of f (sqrt_of f x)))
recip_root_positive f x p t = reciprocal_positive f x (sqrt_rooted f x p t)
