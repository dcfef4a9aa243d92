-- A sum that starts at +0: the start changes a −0 into +0 and nothing else (`clear`), so that it can be added last, or to another term. Assumes nothing.
use mathlib.Core.Path.{◌≡◌, refl, sym, ap, ◌∙◌, subst}
use mathlib.Core.Bool.{Bool, true, false, ◌&&◌, beq, cond, true≢false}
use Prim.Native.Nat.{ℕ, zero, suc, ◌+◌, ◌*◌, ◌^◌, ◌<◌}
use native.Mathlib.Nat.{le_of_eq, lt_of_lt_of_le, zero-lt-suc, zero-add, sub-zero, zero-mul, mul_comm, mul_assoc, mul_right_comm, mul-pos, lt_of_mul-lt-mul_right, mul-lt-mul_of_pos_right}
use borrow.Author.Tests.{lt-ltb}
use lib.IntN.{ℤ, pos}
use lib.Dec.{T}
use lib.Pow.{pow-add, pow_pos}
use lib.Ieee.{Float, nan, inf, fin, Format, emax, low, up, down, unlike, round, sum, add, mul, fits}
use lib.Ieee.Fits.{up_pos, down_pos, round-fits, add-fits, mul-fits}
use lib.Ieee.Exact.{round_exact}
use lib.Ieee.Scale.{round_same}
use Rattle.numbers.specs.Sums.{plus0}
use Rattle.numbers.proofs.Commute.{terms_commute, factors_commute}
use Rattle.numbers.proofs.Exists.{held, in_units}
use Rattle.numbers.proofs.NotFinite.{nought}
use Rattle.numbers.proofs.Same.{same_value}
use Rattle.numbers.proofs.MinusZero.{is_minus0, total}

-- x, and +0 for −0
abbrev clear : Float → Float
clear nan = nan
clear (inf s) = inf s
clear (fin s zero e) = plus0
clear (fin s (suc m) e) = fin s (suc m) e

-- there is one zero of a sign
one_zero : (f : Format) (s : Bool) (e : ℤ) → T (fits f (fin s zero e)) → fin s 0 (pos 0) ≡ fin s zero e
one_zero f s e t = same_value f (fin s 0 (pos 0)) (fin s zero e) s 0 1 (unfold fits in tt) t (zero-lt-suc 0) (refl, refl) (refl, ap (λ (z : ℕ). z * 1) (zero-mul (up e)) ∙ sym (zero-mul (down e)))

-- what is not −0 is left
left : (f : Format) (x : Float) → T (fits f x) → is_minus0 x ≡ false → clear x ≡ x
left f nan t h = refl
left f (inf s) t h = refl
left f (fin s (suc m) e) t h = refl
left f (fin true zero e) t h = absurd (true≢false h)
left f (fin false zero e) t h = one_zero f false e t

-- ---- a number that the format holds is its own rounded value

own : (f : Format) (s : Bool) (m : ℕ) (e : ℤ) → T (fits f (fin s (suc m) e)) → round f s (suc m * up e) (down e) ≡ fin s (suc m) e
own f s m e t =
    let h = held f s m e t in
    let u = in_units e (low f) h.fine in
    let whole : suc m * up e * 2 ^ low f ≡ suc m * 2 ^ u.0 * down e = mul_assoc (suc m) (up e) (2 ^ low f) ∙ ap (λ (x : ℕ). suc m * x) u.1 ∙ sym (mul_assoc (suc m) (2 ^ u.0) (down e)) in
    let most : 2 ^ suc (emax f) * down e * 2 ^ low f ≡ 2 ^ (low f + suc (emax f)) * down e =
    mul_right_comm (2 ^ suc (emax f)) (down e) (2 ^ low f) ∙ ap (λ (x : ℕ). x * down e) (mul_comm (2 ^ suc (emax f)) (2 ^ low f) ∙ sym (pow-add 2 (low f) (suc (emax f)))) in
    let below : suc m * 2 ^ u.0 < 2 ^ (low f + suc (emax f)) =
    lt_of_mul-lt-mul_right (down e) (lt_of_lt_of_le (subst (λ (x : ℕ). x < 2 ^ suc (emax f) * down e * 2 ^ low f) whole (mul-lt-mul_of_pos_right h.small (pow_pos (low f)))) (le_of_eq most)) in
    same_value f (round f s (suc m * up e) (down e)) (fin s (suc m) e) s (suc m * up e) (down e) (round-fits f s (suc m * up e) (down e)) t (down_pos e)
    (round_exact f s (suc m * up e) (down e) (suc m) u.0 (down_pos e) h.short below whole) (refl, refl)

-- ---- a zero and another term

-- b above 0: the sum is b
with_nought : (f : Format) (s t : Bool) (b c : ℕ) → 0 < b → sum f s 0 t b c ≡ round f t b c
unfolding sum
with_nought f true true b c h = ap (λ (n : ℕ). round f true n c) (zero-add b)
with_nought f true false b c h = rw (lt-ltb 0 b h) (ap (λ (n : ℕ). round f false n c) (sub-zero b))
with_nought f false true b c h = rw (lt-ltb 0 b h) (ap (λ (n : ℕ). round f true n c) (sub-zero b))
with_nought f false false b c h = ap (λ (n : ℕ). round f false n c) (zero-add b)

nought_plus : (f : Format) (s : Bool) (d : ℤ) (t : Bool) (m : ℕ) (e : ℤ) → T (fits f (fin t (suc m) e)) → add f (fin s zero d) (fin t (suc m) e) ≡ fin t (suc m) e
unfolding add
nought_plus f s d t m e h =
    ap (λ (a : ℕ). sum f s a t (suc m * up e * down d) (down d * down e)) (ap (λ (a : ℕ). a * down e) (zero-mul (up d)) ∙ zero-mul (down e))
    ∙ with_nought f s t (suc m * up e * down d) (down d * down e) (mul-pos (mul-pos (zero-lt-suc m) (up_pos e)) (down_pos d))
    ∙ round_same f t (suc m * up e * down d) (down d * down e) (suc m * up e) (down e) (mul-pos (down_pos d) (down_pos e)) (down_pos e) (mul_assoc (suc m * up e) (down d) (down e))
    ∙ own f t m e h

-- both are zeros: −0 where both are
two_noughts : (f : Format) (s t : Bool) (c : ℕ) → 0 < c → sum f s 0 t 0 c ≡ fin (s && t) 0 (pos 0)
unfolding sum
two_noughts f true true c h = nought f true c h
two_noughts f true false c h = nought f false c h
two_noughts f false true c h = nought f false c h
two_noughts f false false c h = nought f false c h

noughts : (f : Format) (s : Bool) (d : ℤ) (t : Bool) (e : ℤ) → add f (fin s zero d) (fin t zero e) ≡ fin (s && t) 0 (pos 0)
unfolding add
noughts f s d t e =
    rw (zero-mul (up d), zero-mul (up e), zero-mul (down d), zero-mul (down e)) (two_noughts f s t (down d * down e) (mul-pos (down_pos d) (down_pos e)))

-- So +0 clears it, and −0 leaves it as it is.
plus_nought : (f : Format) (d : ℤ) (x : Float) → T (fits f x) → add f (fin false zero d) x ≡ clear x
unfolding add
plus_nought f d nan t = refl
plus_nought f d (inf s) t = refl
plus_nought f d (fin s zero e) t = noughts f false d s e
plus_nought f d (fin s (suc m) e) t = nought_plus f false d s m e t

minus_nought : (f : Format) (d : ℤ) (x : Float) → T (fits f x) → add f (fin true zero d) x ≡ x
unfolding add
minus_nought f d nan t = refl
minus_nought f d (inf s) t = refl
minus_nought f d (fin s zero e) t = noughts f true d s e ∙ one_zero f s e t
minus_nought f d (fin s (suc m) e) t = nought_plus f true d s m e t

-- ---- what `clear` goes through

-- a sum, from either term
clear_plus : (f : Format) (x y : Float) → T (fits f x) → T (fits f y) → add f (clear x) y ≡ clear (add f x y)
unfolding add
clear_plus f nan y h k = refl
clear_plus f (inf s) nan h k = refl
clear_plus f (inf s) (inf t) h k = either (beq s t)
  where
    either : (b : Bool) → cond b (inf s) nan ≡ clear (cond b (inf s) nan)
    either true = refl
    either false = refl
clear_plus f (inf s) (fin t n d) h k = refl
clear_plus f (fin false zero e) y h k = plus_nought f (pos 0) y k ∙ sym (ap clear (plus_nought f e y k) ∙ twice y)
  where
    twice : (y : Float) → clear (clear y) ≡ clear y
    twice nan = refl
    twice (inf s) = refl
    twice (fin s zero e) = refl
    twice (fin s (suc m) e) = refl
clear_plus f (fin true zero e) y h k = plus_nought f (pos 0) y k ∙ sym (ap clear (minus_nought f e y k))
clear_plus f (fin s (suc m) e) nan h k = refl
clear_plus f (fin s (suc m) e) (inf t) h k = refl
clear_plus f (fin s (suc m) e) (fin t n d) h k = sym (left f (add f (fin s (suc m) e) (fin t n d)) (add-fits f (fin s (suc m) e) (fin t n d)) (total f s m e t n d h k))

plus_clear : (f : Format) (x y : Float) → T (fits f x) → T (fits f y) → add f x (clear y) ≡ clear (add f x y)
plus_clear f x y h k = terms_commute f x (clear y) ∙ clear_plus f y x k h ∙ ap clear (terms_commute f y x)

-- a product that is cleared itself
clear_times : (f : Format) (x y : Float) → clear (mul f (clear x) y) ≡ clear (mul f x y)
unfolding mul
clear_times f nan y = refl
clear_times f (inf s) y = refl
clear_times f (fin s (suc m) e) y = refl
clear_times f (fin s zero e) nan = refl
clear_times f (fin s zero e) (inf t) = refl
clear_times f (fin s zero e) (fin t n d) =
    ap clear (lost false (pos 0)) ∙ sym (ap clear (lost s e))
  where
    lost : (s : Bool) (e : ℤ) → round f (unlike s t) (zero * up e * (n * up d)) (down e * down d) ≡ fin (unlike s t) 0 (pos 0)
    lost s e = ap (λ (x : ℕ). round f (unlike s t) x (down e * down d)) (ap (λ (x : ℕ). x * (n * up d)) (zero-mul (up e)) ∙ zero-mul (n * up d)) ∙ nought f (unlike s t) (down e * down d) (mul-pos (down_pos e) (down_pos d))

-- ---- sums of products that start at +0, the start taken last

-- the start itself
start : (f : Format) (x : Float) → T (fits f x) → add f plus0 x ≡ clear x
start f x h = plus_nought f (pos 0) x h

-- A start in front of two terms is one in front of their sum ..
pub start_last : (f : Format) (a b : Float) → T (fits f a) → T (fits f b) → add f (add f plus0 a) b ≡ add f plus0 (add f a b)
start_last f a b h k = ap (λ (x : Float). add f x b) (start f a h) ∙ clear_plus f a b h k ∙ sym (start f (add f a b) (add-fits f a b))

-- .. or one in front of the second.
pub start_later : (f : Format) (a b : Float) → T (fits f a) → T (fits f b) → add f (add f plus0 a) b ≡ add f a (add f plus0 b)
start_later f a b h k = ap (λ (x : Float). add f x b) (start f a h) ∙ clear_plus f a b h k ∙ sym (ap (add f a) (start f b k) ∙ plus_clear f a b h k)

-- A sum of a product does not see the start of a factor ..
pub once_started : (f : Format) (u a : Float) → T (fits f u) → add f plus0 (mul f (add f plus0 u) a) ≡ add f plus0 (mul f u a)
once_started f u a h =
    ap (λ (x : Float). add f plus0 (mul f x a)) (start f u h)
    ∙ start f (mul f (clear u) a) (mul-fits f (clear u) a) ∙ clear_times f u a ∙ sym (start f (mul f u a) (mul-fits f u a))

-- .. nor that of both ..
pub twice_started : (f : Format) (u v : Float) → T (fits f u) → T (fits f v) → add f plus0 (mul f (add f plus0 u) (add f plus0 v)) ≡ add f plus0 (mul f u v)
twice_started f u v h k =
    once_started f u (add f plus0 v) h ∙ ap (add f plus0) (factors_commute f u (add f plus0 v)) ∙ once_started f v u k ∙ ap (add f plus0) (factors_commute f v u)

-- .. nor, where it has begun with a start of its own, that of a later product's.
pub later_started : (f : Format) (x u a : Float) → T (fits f x) → T (fits f u) → add f (add f plus0 x) (mul f (add f plus0 u) a) ≡ add f (add f plus0 x) (mul f u a)
later_started f x u a h k =
    start_later f x (mul f (add f plus0 u) a) h (mul-fits f (add f plus0 u) a) ∙ ap (add f x) (once_started f u a k) ∙ sym (start_later f x (mul f u a) h (mul-fits f u a))
