-- Two numbers that a format holds do not add up to so little that it is lost: they are whole numbers of the format's smallest values, and so is their sum. So it is −0 only where both are. Assumes nothing.
use mathlib.Core.Path.{◌≡◌, refl, sym, ap, ◌∙◌, subst}
use mathlib.Core.Bool.{Bool, true, false, cond}
use Prim.Native.Nat.{ℕ, zero, suc, ◌+◌, ◌-◌, ◌*◌, ◌/◌, ◌%◌, ◌^◌, ◌≤◌, ◌<◌, compare}
use native.Mathlib.Nat.{le_trans, le_of_eq, lt_irrefl, zero-lt-suc, zero-mul, one-mul, mul_comm, mul_assoc, mul_right_comm, mul-pos, mul-le-mul_right, add-mul, mul-sub, le-div_iff_mul-le, div-div-eq-div-mul}
use native.Mathlib.Omega.{arith}
use lib.IntN.{ℤ}
use lib.Dec.{T, ltb, ltb→lt}
use lib.Pow.{pow_pos}
use lib.Ieee.{Float, nan, inf, fin, Format, prec, emax, low, up, down, size, nearest, odd, units, round, sum, add, fits}
use lib.Ieee.Digits.{size_reaches}
use lib.Ieee.Fits.{up_pos, down_pos, round_is, two, two-le_pos}
use lib.Ieee.Exact.{HasValue, odd_sign}
use lib.Ieee.Nearest.{nearest-ge}
use Rattle.numbers.proofs.Exists.{size_over}
use Rattle.numbers.proofs.Nearest.{in_steps}

-- whether it is −0
abbrev pub is_minus0 : Float → Bool
is_minus0 nan = false
is_minus0 (inf s) = false
is_minus0 (fin false m e) = false
is_minus0 (fin true zero e) = true
is_minus0 (fin true (suc m) e) = false

-- a number of which digits are left is no zero
rounded_up : (f : Format) (q k : ℕ) → 0 < q → is_minus0 (units f true q k) ≡ false
unfolding units
rounded_up f q k h = go (ltb (q * 2 ^ k) (2 ^ (low f + suc (emax f))))
  where
    valued : (x : Float) (a c : ℕ) → 0 < a → HasValue x true a c → is_minus0 x ≡ false
    valued nan a c h v = refl
    valued (inf s) a c h v = refl
    valued (fin false m e) a c h v = refl
    valued (fin true zero e) a c h v = absurd (lt_irrefl 0 (subst (λ (x : ℕ). 0 < x) (sym v.1 ∙ ap (λ (x : ℕ). x * c) (zero-mul (up e)) ∙ zero-mul c) (mul-pos h (down_pos e))))
    valued (fin true (suc m) e) a c h v = refl

    go : (b : Bool) → is_minus0 (cond b (odd (suc (prec f)) true q k (low f)) (inf true)) ≡ false
    go true = valued (odd (suc (prec f)) true q k (low f)) (q * 2 ^ k) (2 ^ low f) (mul-pos h (pow_pos k)) (odd_sign (suc (prec f)) true q k (low f))
    go false = refl

-- n / c, a whole number z of the format's smallest values and not 0, is not rounded to −0 ..
not_lost : (f : Format) (n c z : ℕ) → 0 < n → 0 < c → n * 2 ^ low f ≡ z * c → is_minus0 (round f true n c) ≡ false
not_lost f n c z N C e =
    let w = n * 2 ^ low f / c in
    let k = size w - prec f in
    let W : 1 ≤ w = (le-div_iff_mul-le C).1 (le_trans (mul-le-mul_right c (some z e)) (le_of_eq (sym e))) in
    let K : 2 ^ k ≤ w = size_reaches w k (fewer (size w) (prec f) (size_over w 0 W) (two-le_pos (prec f) (two f))) in
    let q : 1 ≤ n * 2 ^ low f / (c * 2 ^ k) = subst (λ (x : ℕ). 1 ≤ x) (div-div-eq-div-mul (n * 2 ^ low f) c (2 ^ k)) ((le-div_iff_mul-le (pow_pos k)).1 (le_trans (le_of_eq (one-mul (2 ^ k))) K)) in
    ap is_minus0 (round_is f true n c) ∙ rounded_up f (nearest (n * 2 ^ low f / (c * 2 ^ k)) (compare (n * 2 ^ low f % (c * 2 ^ k) * 2) (c * 2 ^ k))) k (le_trans q (nearest-ge (n * 2 ^ low f / (c * 2 ^ k)) (compare (n * 2 ^ low f % (c * 2 ^ k) * 2) (c * 2 ^ k))))
  where
    some : (z : ℕ) → n * 2 ^ low f ≡ z * c → 1 ≤ z
    some zero e = absurd (lt_irrefl 0 (subst (λ (x : ℕ). 0 < x) (e ∙ zero-mul c) (mul-pos N (pow_pos (low f)))))
    some (suc z) e = zero-lt-suc z

    fewer : (s p : ℕ) → 0 < s → 0 < p → s - p < s
    fewer s p S P = omega arith

-- .. nor is what is rounded without a sign
unsigned : (f : Format) (q k : ℕ) → is_minus0 (units f false q k) ≡ false
unfolding units odd
unsigned f q k = go q (ltb (q * 2 ^ k) (2 ^ (low f + suc (emax f))))
  where
    go : (q : ℕ) (b : Bool) → is_minus0 (cond b (odd (suc (prec f)) false q k (low f)) (inf false)) ≡ false
    go q false = refl
    go zero true = refl
    go (suc q) true = refl

plain : (f : Format) (n c : ℕ) → is_minus0 (round f false n c) ≡ false
plain f n c =
    let k = size (n * 2 ^ low f / c) - prec f in
    ap is_minus0 (round_is f false n c) ∙ unsigned f (nearest (n * 2 ^ low f / (c * 2 ^ k)) (compare (n * 2 ^ low f % (c * 2 ^ k) * 2) (c * 2 ^ k))) k

-- the sum of ±a / c and ±b / c, whole numbers y and z of the smallest values, a above 0
module _ (f : Format) (a b c y z : ℕ) (A : 0 < a) (C : 0 < c) (ay : a * 2 ^ low f ≡ y * c) (bz : b * 2 ^ low f ≡ z * c) where
  apart : (k l : ℕ) (i j : ℕ) → i * 2 ^ low f ≡ k * c → j * 2 ^ low f ≡ l * c → j < i → is_minus0 (round f true (i - j) c) ≡ false
  apart k l i j p q h =
      not_lost f (i - j) c (k - l) (some i j h) C (less i j (2 ^ low f) ∙ ap (λ (x : ℕ). x - j * 2 ^ low f) p ∙ ap (λ (x : ℕ). k * c - x) q ∙ sym (less k l c))
    where
      some : (i j : ℕ) → j < i → 0 < i - j
      some i j h = omega arith

      less : (i j u : ℕ) → (i - j) * u ≡ i * u - j * u
      less i j u = mul_comm (i - j) u ∙ mul-sub u i j ∙ ap (λ (x : ℕ). x - u * j) (mul_comm u i) ∙ ap (λ (x : ℕ). i * u - x) (mul_comm u j)

  not_minus0 : (s t : Bool) → is_minus0 (sum f s a t b c) ≡ false
  unfolding sum
  not_minus0 true true = not_lost f (a + b) c (y + z) (more a b A) C (add-mul a b (2 ^ low f) ∙ ap (λ (x : ℕ). x + b * 2 ^ low f) ay ∙ ap (λ (x : ℕ). y * c + x) bz ∙ sym (add-mul y z c))
    where
      more : (a b : ℕ) → 0 < a → 0 < a + b
      more a b h = omega arith
  not_minus0 false false = plain f (a + b) c
  not_minus0 false true = go (ltb a b) (ltb→lt a b)
    where
      go : (x : Bool) → (T x → a < b) → is_minus0 (cond x (round f true (b - a) c) (round f false (a - b) c)) ≡ false
      go true h = apart z y b a bz ay (h tt)
      go false h = plain f (a - b) c
  not_minus0 true false = go (ltb a b) (ltb b a) (ltb→lt b a)
    where
      go : (x w : Bool) → (T w → b < a) → is_minus0 (cond x (round f false (b - a) c) (round f w (a - b) c)) ≡ false
      go true w h = plain f (b - a) c
      go false true h = apart y z a b ay bz (h tt)
      go false false h = plain f (a - b) c

-- So a number that is not zero, with another on top, is not −0.
pub total : (f : Format) (s : Bool) (m : ℕ) (e : ℤ) (t : Bool) (n : ℕ) (d : ℤ) → T (fits f (fin s (suc m) e)) → T (fits f (fin t n d)) → is_minus0 (add f (fin s (suc m) e) (fin t n d)) ≡ false
unfolding add
total f s m e t n d h k =
    let y = in_steps f s (suc m) e h in
    let z = in_steps f t n d k in
    not_minus0 f (suc m * up e * down d) (n * up d * down e) (down e * down d) y.0 z.0 (mul-pos (mul-pos (zero-lt-suc m) (up_pos e)) (down_pos d)) (mul-pos (down_pos e) (down_pos d))
    (mul_right_comm (suc m * up e) (down d) (2 ^ low f) ∙ ap (λ (x : ℕ). x * down d) y.2 ∙ mul_assoc y.0 (down e) (down d))
    (mul_right_comm (n * up d) (down e) (2 ^ low f) ∙ ap (λ (x : ℕ). x * down e) z.2 ∙ mul_assoc z.0 (down d) (down e) ∙ ap (λ (x : ℕ). z.0 * x) (mul_comm (down d) (down e)))
    s t
