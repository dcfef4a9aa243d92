-- Neither a sum nor a product of two floats turns on the order of its two. Assumes nothing.
use mathlib.Core.Path.{◌≡◌, refl, sym, ap, ◌∙◌}
use mathlib.Core.Logic.{⊎_elim}
use mathlib.Core.Bool.{Bool, true, false, ◌&&◌, cond}
use Prim.Native.Nat.{ℕ, ◌+◌, ◌-◌, ◌*◌, ◌<◌}
use native.Mathlib.Nat.{add_comm, mul_comm, eq-or-lt_of_le}
use native.Mathlib.Decide.{dec_lt}
use native.Mathlib.Omega.{arith}
use borrow.Author.Tests.{lt-ltb, le-ltb}
use lib.Dec.{ltb}
use lib.Ieee.{Float, nan, inf, fin, Format, up, down, unlike, sum, round, add, mul}

-- ---- sums

-- the sum of ±a / c and ±b / c, of signs s and t that differ: the difference, with the sign of the larger, and +0 where neither is larger
abbrev less : Format → Bool → ℕ → Bool → ℕ → ℕ → Float
less f s a t b c = cond (ltb a b) (round f t (b - a) c) (round f (s && ltb b a) (a - b) c)

and-true : (s : Bool) → s && true ≡ s
and-true true = refl
and-true false = refl

and-false : (s : Bool) → s && false ≡ false
and-false true = refl
and-false false = refl

-- where b is larger
less_below : (f : Format) (s t : Bool) (a b c : ℕ) → a < b → less f s a t b c ≡ less f t b s a c
less_below f s t a b c h = simp (lt-ltb a b h, le-ltb b a (omega arith), and-true t)

-- where neither is
less_level : (f : Format) (s t : Bool) (a c : ℕ) → less f s a t a c ≡ less f t a s a c
less_level f s t a c = simp (le-ltb a a (omega arith), and-false s, and-false t)

-- so the order of two terms of unlike signs is nothing
unlike_terms : (f : Format) (s t : Bool) (a b c : ℕ) → less f s a t b c ≡ less f t b s a c
unlike_terms f s t a b c = elim (dec_lt a b) [
  | yes h ↦ less_below f s t a b c h
  | no h ↦ ⊎_elim (λ (e : b ≡ a). rw e (less_level f s t a c)) (λ (l : b < a). sym (less_below f t s b a c l)) (eq-or-lt_of_le (omega arith))
]

-- nor that of two of one sign
like_terms : (f : Format) (s : Bool) (a b c : ℕ) → round f s (a + b) c ≡ round f s (b + a) c
like_terms f s a b c = ap (λ (n : ℕ). round f s n c) (add_comm a b)

-- the sum of two fractions with one denominator
sums_commute : (f : Format) (s : Bool) (a : ℕ) (t : Bool) (b c : ℕ) → sum f s a t b c ≡ sum f t b s a c
unfolding sum
sums_commute f true a true b c = like_terms f true a b c
sums_commute f true a false b c = unlike_terms f true false a b c
sums_commute f false a true b c = unlike_terms f false true a b c
sums_commute f false a false b c = like_terms f false a b c

-- NaN, infinities and finite floats alike
pub terms_commute : (f : Format) (x y : Float) → add f x y ≡ add f y x
unfolding add
terms_commute f nan nan = refl
terms_commute f nan (inf t) = refl
terms_commute f nan (fin t n d) = refl
terms_commute f (inf s) nan = refl
terms_commute f (inf true) (inf true) = refl
terms_commute f (inf true) (inf false) = refl
terms_commute f (inf false) (inf true) = refl
terms_commute f (inf false) (inf false) = refl
terms_commute f (inf s) (fin t n d) = refl
terms_commute f (fin s m e) nan = refl
terms_commute f (fin s m e) (inf t) = refl
terms_commute f (fin s m e) (fin t n d) =
    sums_commute f s (m * up e * down d) t (n * up d * down e) (down e * down d)
    ∙ ap (sum f t (n * up d * down e) s (m * up e * down d)) (mul_comm (down e) (down d))

-- ---- products

-- the sign of a product
unlike_comm : (s t : Bool) → unlike s t ≡ unlike t s
unlike_comm true true = refl
unlike_comm true false = refl
unlike_comm false true = refl
unlike_comm false false = refl

-- NaN, infinities and finite floats alike
pub factors_commute : (f : Format) (x y : Float) → mul f x y ≡ mul f y x
unfolding mul
factors_commute f nan nan = refl
factors_commute f nan (inf t) = refl
factors_commute f nan (fin t n d) = refl
factors_commute f (inf s) nan = refl
factors_commute f (inf s) (inf t) = ap inf (unlike_comm s t)
factors_commute f (inf s) (fin t n d) = rw (unlike_comm s t)
factors_commute f (fin s m e) nan = refl
factors_commute f (fin s m e) (inf t) = rw (unlike_comm s t)
factors_commute f (fin s m e) (fin t n d) = simp (mul_comm (m * up e) (n * up d), mul_comm (down e) (down d), unlike_comm s t)
