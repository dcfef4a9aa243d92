-- What is not finite stays so in a sum, in a difference and in a product; and what is finite is what has a difference from itself that is not below 0. By cases. Assumes nothing.
use mathlib.Core.Path.{◌≡◌, refl, sym, ap, ◌∙◌}
use mathlib.Core.Logic.{⊎_elim}
use mathlib.Core.Bool.{Bool, true, false, not, cond, ◌&&◌, beq, true≢false}
use Prim.Native.Nat.{ℕ, zero, suc, ◌*◌, ◌<◌}
use native.Mathlib.Nat.{zero-lt-suc, zero-mul, mul-pos, le_refl, sub_self, not-suc-le-zero, le_of_suc-le-suc, eq-or-lt_of_le}
use lib.Dec.{eqb}
use borrow.Author.Tests.{le-ltb}
use lib.IntN.{pos}
use lib.Ieee.{Float, nan, inf, fin, Format, binary32, binary64, up, down, unlike, round, sum, add, sub, mul, neg, lt, eq, le}
use lib.Ieee.Fits.{down_pos}
use lib.Ieee.Scale.{finite, round_same}
use Rattle.numbers.specs.Sums.{plus0, sum_from, sum_of_first}
use Rattle.numbers.proofs.Every.{then_fails}

-- a sum one of whose terms is not finite
sum_not_finite : (f : Format) (x y : Float) → finite x && finite y ≡ false → finite (add f x y) ≡ false
unfolding add
sum_not_finite f nan y h = refl
sum_not_finite f (inf s) nan h = refl
sum_not_finite f (inf s) (inf t) h = either (beq s t)
  where
    either : (b : Bool) → finite (cond b (inf s) nan) ≡ false
    either true = refl
    either false = refl
sum_not_finite f (inf s) (fin t n d) h = refl
sum_not_finite f (fin s m e) nan h = refl
sum_not_finite f (fin s m e) (inf t) h = refl
sum_not_finite f (fin s m e) (fin t n d) h = absurd (true≢false h)

-- What is not finite stays so when something is added to it ..
pub not_finite_plus : (f : Format) (x y : Float) → finite x ≡ false → finite (add f x y) ≡ false
not_finite_plus f x y h = sum_not_finite f x y (rw h refl)

-- .. when it is added to something ..
pub plus_not_finite : (f : Format) (x y : Float) → finite y ≡ false → finite (add f x y) ≡ false
plus_not_finite f x y h = sum_not_finite f x y (then_fails (finite x) (finite y) h)

-- .. and when something is taken from it.
pub not_finite_less : (f : Format) (x y : Float) → finite x ≡ false → finite (sub f x y) ≡ false
unfolding sub
not_finite_less f x y h = sum_not_finite f x (neg y) (rw h refl)

-- ---- products, and sums of them

-- zero times an infinity is a NaN, and any other number times it an infinity
nan_or_inf : (none s : Bool) → finite (cond none nan (inf s)) ≡ false
nan_or_inf true s = refl
nan_or_inf false s = refl

-- a product one of whose factors is not finite
product_not_finite : (f : Format) (x y : Float) → finite x && finite y ≡ false → finite (mul f x y) ≡ false
unfolding mul
product_not_finite f nan y h = refl
product_not_finite f (inf s) nan h = refl
product_not_finite f (inf s) (inf t) h = refl
product_not_finite f (inf s) (fin t n d) h = nan_or_inf (eqb n 0) (unlike s t)
product_not_finite f (fin s m e) nan h = refl
product_not_finite f (fin s m e) (inf t) h = nan_or_inf (eqb m 0) (unlike s t)
product_not_finite f (fin s m e) (fin t n d) h = absurd (true≢false h)

pub not_finite_times : (f : Format) (x y : Float) → finite x ≡ false → finite (mul f x y) ≡ false
not_finite_times f x y h = product_not_finite f x y (rw h refl)

pub times_not_finite : (f : Format) (x y : Float) → finite y ≡ false → finite (mul f x y) ≡ false
times_not_finite f x y h = product_not_finite f x y (then_fails (finite x) (finite y) h)

-- a sum whose start is not finite, or one of whose terms is not
pub from_not_finite : (f : Format) (start : Float) (t : ℕ → Float) (n : ℕ) → finite start ≡ false → finite (sum_from f start t n) ≡ false
unfolding sum_from
from_not_finite f start t zero h = h
from_not_finite f start t (suc n) h = not_finite_plus f (sum_from f start t n) (t n) (from_not_finite f start t n h)

pub term_not_finite : (f : Format) (start : Float) (t : ℕ → Float) (n i : ℕ) → i < n → finite (t i) ≡ false → finite (sum_from f start t n) ≡ false
unfolding sum_from
term_not_finite f start t zero i l h = absurd (not-suc-le-zero l)
term_not_finite f start t (suc n) i l h =
    ⊎_elim
    (λ q. plus_not_finite f (sum_from f start t n) (t n) (ap (λ (k : ℕ). finite (t k)) (sym q) ∙ h))
    (λ m. not_finite_plus f (sum_from f start t n) (t n) (term_not_finite f start t n i m h))
    (eq-or-lt_of_le (le_of_suc-le-suc l))

pub first_not_finite : (f : Format) (t : ℕ → Float) (n i : ℕ) → i < n → finite (t i) ≡ false → finite (sum_of_first f t n) ≡ false
first_not_finite f t zero i l h = absurd (not-suc-le-zero l)
first_not_finite f t (suc n) zero l h = from_not_finite f (t 0) (λ k. t (suc k)) n h
first_not_finite f t (suc n) (suc i) l h = term_not_finite f (t 0) (λ k. t (suc k)) n i (le_of_suc-le-suc l) h

-- ---- the test that a program makes

-- nothing is a zero, of the sign that it has ..
nought_whole : (f : Format) (s : Bool) → round f s 0 1 ≡ fin s 0 (pos 0)
unfolding round
nought_whole binary32 s = refl
nought_whole binary64 s = refl

-- .. over any c
pub nought : (f : Format) (s : Bool) (c : ℕ) → 0 < c → round f s 0 c ≡ fin s 0 (pos 0)
nought f s c h = round_same f s 0 c 0 1 h (zero-lt-suc 0) (zero-mul 1 ∙ sym (zero-mul c)) ∙ nought_whole f s

-- a finite number less itself is +0
less_itself : (f : Format) (s : Bool) (a c : ℕ) → 0 < c → sum f s a (not s) a c ≡ plus0
unfolding sum
less_itself f true a c h = rw (le-ltb a a (le_refl a), sub_self a) (nought f false c h)
less_itself f false a c h = rw (le-ltb a a (le_refl a), sub_self a) (nought f false c h)

-- A number is finite exactly where its difference from itself is not below 0: it is +0 then, and that of a NaN or an infinity is a NaN, which nothing is below or equal to.
pub finite_by : (f : Format) (x : Float) → le plus0 (sub f x x) ≡ finite x
unfolding sub add neg lt eq le
finite_by f nan = refl
finite_by f (inf true) = refl
finite_by f (inf false) = refl
finite_by f (fin s m e) = rw (less_itself f s (m * up e * down e) (down e * down e) (mul-pos (down_pos e) (down_pos e))) refl
