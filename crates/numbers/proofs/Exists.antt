-- `sqrt_of` is the root that `IsRoot` says, for every value of a format that is finite and above zero. Assumes nothing.
use mathlib.Core.Path.{◌≡◌, refl, sym, ap, ap₂, ◌∙◌, subst}
use Prim.Native.Nat.{ℕ, zero, suc, ◌+◌, ◌-◌, ◌*◌, ◌/◌, ◌%◌, ◌^◌, ◌≤◌, ◌<◌}
use native.Mathlib.Nat.{le_trans, le_of_eq, le_of_lt, lt_of_lt_of_le, lt_of_le_of_lt, lt_of_not-le, not-le_of_lt, lt_irrefl, zero-lt-suc, zero-mul, mul-one, one-mul, mul_assoc, mul_right_comm, mul-le-mul, mul-le-mul_left, mul-le-mul_right, mul-lt-mul_of_pos_right, lt_of_mul-lt-mul_right, mul-pos, mul-div_cancel}
use native.Mathlib.Omega.{arith}
use mathlib.Core.Bool.{Bool, true, false, ◌&&◌, cond, true≢false}
use lib.IntN.{ℤ, pos, negsuc}
use lib.Dec.{T, eqb, leb, ltb, leb→le, ltb→lt, lt→ltb, lit≤}
use lib.Pow.{pow-add, pow_pos, pow_mono, pow-lt}
use lib.Ieee.{Float, nan, inf, fin, Format, binary32, binary64, prec, emax, low, up, down, minus, size, units, odd, fits}
use lib.Ieee.Digits.{back, minus_val, size-lt, size-le, size_reaches}
use lib.Ieee.Fits.{down_pos, and_l, and_r, two, two-le_pos, odd-fits}
use lib.Ieee.Exact.{HasValue, units_val}
use lib.Ieee.Positive.{num, den, positive}
use Rattle.numbers.specs.Root.{sq, IsRoot, near_root, root_of, sqrt_of}
use Rattle.numbers.proofs.Floor.{Near, near_is}
use Rattle.numbers.proofs.Unique.{cross_lt, cross_gt, cross_le, root_one}
use Rattle.numbers.proofs.Same.{same_value}

-- ---- `root_of` at n · 4 ^ k, for an n of 2p - 1 or 2p digits: it drops k digits
sq_pow : (k : ℕ) → sq (2 ^ k) ≡ 2 ^ (k + k)
sq_pow k = sym (pow-add 2 k k)

digits : (p k z : ℕ) → 0 < p → p - 1 + (p - 1) + (k + k) < z → z ≤ p + p + (k + k) → (z + 1) / 2 - p ≡ k
digits p k z P l u = omega arith

pub size_over : (n j : ℕ) → 2 ^ j ≤ n → j < size n
size_over n j h = lt_of_not-le (λ (g : size n ≤ j). not-le_of_lt (lt_of_lt_of_le (size-lt n) (pow_mono g)) h)

drops : (p n k : ℕ) → 0 < p → sq (2 ^ (p - 1)) ≤ n → n < sq (2 ^ p) → (size (n * sq (2 ^ k)) + 1) / 2 - p ≡ k
drops p n k P lo hi =
    let w = n * sq (2 ^ k) in
    digits p k (size w) P
    (size_over w (p - 1 + (p - 1) + (k + k)) (le_trans (le_of_eq (pow-add 2 (p - 1 + (p - 1)) (k + k) ∙ ap₂ (λ (i j : ℕ). i * j) (pow-add 2 (p - 1) (p - 1)) (pow-add 2 k k))) (mul-le-mul_right (sq (2 ^ k)) lo)))
    (size-le w (p + p + (k + k)) (lt_of_lt_of_le (mul-lt-mul_of_pos_right hi (mul-pos (pow_pos k) (pow_pos k))) (le_of_eq (sym (pow-add 2 (p + p) (k + k) ∙ ap₂ (λ (i j : ℕ). i * j) (pow-add 2 p p) (pow-add 2 k k))))))

pub root_at : (f : Format) (n k : ℕ) → sq (2 ^ (prec f - 1)) ≤ n → n < sq (2 ^ prec f) → root_of f (n * sq (2 ^ k)) ≡ units f false (near_root (prec f) n) k
unfolding root_of
root_at f n k lo hi =
    let p = prec f in
    let w = n * sq (2 ^ k) in
    ap (λ (j : ℕ). units f false (near_root p (w / sq (2 ^ j))) j) (drops p n k (two-le_pos p (two f)) lo hi)
    ∙ ap (λ (x : ℕ). units f false (near_root p x) k) (mul-div_cancel n (mul-pos (pow_pos k) (pow_pos k)))

-- ---- the fraction a / c = n · 4 ^ k / 4 ^ l has the root s · 2 ^ (k - l), where s is the whole number next to the root of n
pub near_holds : (p a c n k l s : ℕ) → 0 < c → a * sq (2 ^ l) ≡ n * sq (2 ^ k) * c → Near p n s → IsRoot p a c s (minus k l)
near_holds p a c n k l s C e r =
    let F = minus k l in
    let q : 2 ^ k * down F ≡ up F * 2 ^ l = sym (sym (ap (λ (x : ℕ). x * 2 ^ l) (one-mul (up F))) ∙ minus_val 1 k l ∙ ap (λ (x : ℕ). x * down F) (one-mul (2 ^ k))) in
    let z : 0 < sq (2 ^ k) * c = mul-pos (mul-pos (pow_pos k) (pow_pos k)) C in
    let four : 4 * n * (sq (2 ^ k) * c) ≡ 4 * a * sq (2 ^ l) = mul_assoc 4 n (sq (2 ^ k) * c) ∙ ap (λ (x : ℕ). 4 * x) (sym (mul_assoc n (sq (2 ^ k)) c) ∙ sym e) ∙ sym (mul_assoc 4 a (sq (2 ^ l))) in
    record {
      least = r.least;
      most = r.most;
      over = cross_lt (2 ^ k) (2 ^ l) (down F) (up F) q (pow_pos l) (down_pos F) (sq (2 * s - 1)) c (4 * a)
          (lt_of_le_of_lt (le_of_eq (mul_assoc (sq (2 * s - 1)) (sq (2 ^ k)) c)) (lt_of_lt_of_le (mul-lt-mul_of_pos_right r.over z) (le_of_eq four)));
      under = cross_gt (2 ^ k) (2 ^ l) (down F) (up F) q (pow_pos l) (down_pos F) (sq (2 * s + 1)) c (4 * a)
          (lt_of_le_of_lt (le_of_eq (sym four)) (lt_of_lt_of_le (mul-lt-mul_of_pos_right r.under z) (le_of_eq (sym (mul_assoc (sq (2 * s + 1)) (sq (2 ^ k)) c)))));
      edge = λ d. cross_le (2 ^ k) (2 ^ l) (down F) (up F) q (pow_pos l) (down_pos F) (sq s) c a
          (le_trans (mul-le-mul_right c (mul-le-mul_right (sq (2 ^ k)) (r.edge d))) (le_of_eq (sym e)));
    }

pub root_holds : (p a c n k l : ℕ) → 0 < c → a * sq (2 ^ l) ≡ n * sq (2 ^ k) * c → sq (2 ^ (p - 1)) ≤ n → n + 2 ^ p ≤ sq (2 ^ p) → IsRoot p a c (near_root p n) (minus k l)
root_holds p a c n k l C e lo hi = near_holds p a c n k l (near_root p n) C e (near_is p n lo hi)

-- ---- a number of p digits with p + d zeros after it is such an n · 4 ^ k
abbrev pub wide : ℕ → ℕ → ℕ → ℕ
wide p M d = M * 2 ^ (p - d % 2)

abbrev pub half : ℕ → ℕ
half d = (d + 1) / 2

pub wide_is : (p M d : ℕ) → 0 < p → wide p M d * sq (2 ^ half d) ≡ M * 2 ^ (p + d)
wide_is p M d P = ap (λ (x : ℕ). M * 2 ^ (p - d % 2) * x) (sq_pow (half d)) ∙ mul_assoc M (2 ^ (p - d % 2)) (2 ^ (half d + half d)) ∙ ap (λ (x : ℕ). M * x) (sym (pow-add 2 (p - d % 2) (half d + half d)) ∙ ap (λ (x : ℕ). 2 ^ x) (shape p d P))
  where
    shape : (p d : ℕ) → 0 < p → p - d % 2 + (half d + half d) ≡ p + d
    shape p d P = omega arith

pub wide_least : (p M d : ℕ) → 0 < p → 2 ^ (p - 1) ≤ M → sq (2 ^ (p - 1)) ≤ wide p M d
wide_least p M d P h = mul-le-mul h (pow_mono (shape p d P))
  where
    shape : (p d : ℕ) → 0 < p → p - 1 ≤ p - d % 2
    shape p d P = omega arith

pub wide_most : (p M d : ℕ) → M < 2 ^ p → wide p M d + 2 ^ p ≤ sq (2 ^ p)
wide_most p M d h = le_trans (shape (wide p M d) (M * 2 ^ p) (2 ^ p) (mul-le-mul_left M (pow_mono (under p d)))) (le_trans (le_of_eq (more M (2 ^ p))) (mul-le-mul_right (2 ^ p) h))
  where
    under : (p d : ℕ) → p - d % 2 ≤ p
    under p d = omega arith

    shape : (x y q : ℕ) → x ≤ y → x + q ≤ y + q
    shape x y q h = omega arith

    more : (M q : ℕ) → M * q + q ≡ suc M * q
    more M q = sym (native.Mathlib.Nat.suc-mul M q)

below_top : (n q : ℕ) → 0 < q → n + q ≤ sq q → n < sq q
below_top n q Q h = omega arith

pub root_of_digits : (f : Format) (M d : ℕ) → 2 ^ (prec f - 1) ≤ M → M < 2 ^ prec f → root_of f (M * 2 ^ (prec f + d)) ≡ units f false (near_root (prec f) (wide (prec f) M d)) (half d)
root_of_digits f M d lo hi =
    let p = prec f in
    let P = two-le_pos p (two f) in
    ap (λ (w : ℕ). root_of f w) (sym (wide_is p M d P)) ∙ root_at f (wide p M d) (half d) (wide_least p M d P lo) (below_top (wide p M d) (2 ^ p) (pow_pos p) (wide_most p M d hi))

-- ---- the root of a value by its size in units
pub sqrt_at : (f : Format) (x : Float) (A : ℕ) → HasValue x false A (2 ^ low f) → 0 < A → sqrt_of f x ≡ root_of f (A * 2 ^ low f)
unfolding sqrt_of
sqrt_at f nan A h z = absurd h
sqrt_at f (inf s) A h z = absurd h
sqrt_at f (fin s zero e) A h z = absurd (lt_irrefl 0 (subst (λ (x : ℕ). 0 < x) (sym h.1 ∙ ap (λ (x : ℕ). x * 2 ^ low f) (zero-mul (up e)) ∙ zero-mul (2 ^ low f)) (mul-pos z (down_pos e))))
sqrt_at f (fin true (suc m) e) A h z = absurd (true≢false h.0)
sqrt_at f (fin false (suc m) e) A h z =
    ap (λ (x : ℕ). root_of f (x / down e)) (sym (mul_assoc (suc m * up e) (2 ^ low f) (2 ^ low f)) ∙ ap (λ (x : ℕ). x * 2 ^ low f) h.1 ∙ mul_right_comm A (down e) (2 ^ low f))
    ∙ ap (λ (x : ℕ). root_of f x) (mul-div_cancel (A * 2 ^ low f) (down_pos e))

-- ---- a value's size in units: A = m · 2 ^ i
few_digits : (j l : ℕ) → 2 ^ j ≤ 2 ^ l → j ≤ l
few_digits j l h = native.Mathlib.Nat.le_of_suc-le-suc (lt_of_not-le (λ (g : suc l ≤ j). not-le_of_lt (pow-lt g) h))

pub in_units : (e : ℤ) (l : ℕ) → down e ≤ 2 ^ l → (i : ℕ) × (up e * 2 ^ l ≡ 2 ^ i * down e)
in_units (pos j) l h = (j + l, sym (pow-add 2 j l) ∙ sym (mul-one (2 ^ (j + l))))
in_units (negsuc j) l h = (l - suc j, one-mul (2 ^ l) ∙ ap (λ (x : ℕ). 2 ^ x) (sym (back l (suc j) (few_digits (suc j) l h))) ∙ pow-add 2 (l - suc j) (suc j))

-- what `fits` says of a value above zero
pub record Held (f : Format) (m : ℕ) (e : ℤ) : Type 0 where
  pub short : suc m < 2 ^ prec f
  pub fine : down e ≤ 2 ^ low f
  pub small : suc m * up e < 2 ^ suc (emax f) * down e

pub held : (f : Format) (s : Bool) (m : ℕ) (e : ℤ) → T (fits f (fin s (suc m) e)) → Held f m e
unfolding fits
held f s m e t =
    let a : Bool = eqb (suc m % 2) 1 in
    let b : Bool = ltb (suc m) (2 ^ prec f) in
    let c : Bool = leb (down e) (2 ^ low f) in
    let d : Bool = ltb (suc m * up e) (2 ^ suc (emax f) * down e) in
    record {
      short = ltb→lt (suc m) (2 ^ prec f) (and_r a b (and_l (a && b) c (and_l (a && b && c) d t)));
      fine = leb→le (down e) (2 ^ low f) (and_r (a && b) c (and_l (a && b && c) d t));
      small = ltb→lt (suc m * up e) (2 ^ suc (emax f) * down e) (and_r (a && b && c) d t);
    }

-- ---- m brought to p digits
pred_lt : (z : ℕ) → 0 < z → z - 1 < z
pred_lt z h = omega arith

full_least : (p m : ℕ) → suc m < 2 ^ p → 2 ^ (p - 1) ≤ suc m * 2 ^ (p - size (suc m))
full_least p m h =
    let z = size (suc m) in
    let Z : 0 < z = size_over (suc m) 0 (zero_lt_suc' m) in
    let l : z ≤ p = size-le (suc m) p h in
    le_trans (le_of_eq (ap (λ (x : ℕ). 2 ^ x) (shape p z Z l) ∙ pow-add 2 (z - 1) (p - z))) (mul-le-mul_right (2 ^ (p - z)) (size_reaches (suc m) (z - 1) (pred_lt z Z)))
  where
    zero_lt_suc' : (m : ℕ) → 2 ^ 0 ≤ suc m
    zero_lt_suc' m = zero-lt-suc m

    shape : (p z : ℕ) → 0 < z → z ≤ p → p - 1 ≡ z - 1 + (p - z)
    shape p z Z l = omega arith

full_most : (p m : ℕ) → suc m < 2 ^ p → suc m * 2 ^ (p - size (suc m)) < 2 ^ p
full_most p m h =
    let z = size (suc m) in
    lt_of_lt_of_le (mul-lt-mul_of_pos_right (size-lt (suc m)) (pow_pos (p - z))) (le_of_eq (sym (pow-add 2 z (p - z)) ∙ ap (λ (x : ℕ). 2 ^ x) (shape p z (size-le (suc m) p h))))
  where
    shape : (p z : ℕ) → z ≤ p → z + (p - z) ≡ p
    shape p z l = omega arith

room : (f : Format) → prec f + prec f ≤ low f
room binary32 = lit≤ tt
room binary64 = lit≤ tt

fits_in : (f : Format) (d : ℕ) → prec f - 1 + (prec f + d) < suc (emax f) + low f + low f → prec f + half d ≤ low f + suc (emax f)
fits_in binary32 d h = omega arith
fits_in binary64 d h = omega arith

revalue : (x : Float) (s : Bool) (w l a c : ℕ) → 0 < l → a * l ≡ w * c → HasValue x s w l → HasValue x s a c
revalue nan s w l a c L h v = v
revalue (inf t) s w l a c L h v = v
revalue (fin t m e) s w l a c L h v = (
  v.0,
  native.Mathlib.Nat.eq_of_mul-eq-mul_right l L (m * up e * c) (a * down e)
      (mul_right_comm (m * up e) c l ∙ ap (λ (x : ℕ). x * c) v.1 ∙ mul_right_comm w (down e) c ∙ ap (λ (x : ℕ). x * down e) (sym h) ∙ mul_right_comm a l (down e)),
)

less_digits : (j l : ℕ) → 2 ^ j < 2 ^ l → j < l
less_digits j l h = lt_of_not-le (λ (g : l ≤ j). not-le_of_lt h (pow_mono g))

-- the root of a value below the overflow is far below it
root_fine : (f : Format) (A M d s : ℕ) → A < 2 ^ suc (emax f) * 2 ^ low f → A * 2 ^ low f ≡ M * 2 ^ (prec f + d) → 2 ^ (prec f - 1) ≤ M → s < 2 ^ prec f → s * 2 ^ half d < 2 ^ (low f + suc (emax f))
root_fine f A M d s a e lo hi =
    let p = prec f in
    let l = low f in
    let E = suc (emax f) in
    let q : 2 ^ (p - 1 + (p + d)) < 2 ^ (E + l + l) =
    lt_of_le_of_lt (le_of_eq (pow-add 2 (p - 1) (p + d))) (lt_of_le_of_lt (mul-le-mul_right (2 ^ (p + d)) lo) (lt_of_le_of_lt (le_of_eq (sym e))
    (lt_of_lt_of_le (mul-lt-mul_of_pos_right a (pow_pos l)) (le_of_eq (ap (λ (x : ℕ). x * 2 ^ l) (sym (pow-add 2 E l)) ∙ sym (pow-add 2 (E + l) l)))))) in
    lt_of_lt_of_le (mul-lt-mul_of_pos_right hi (pow_pos (half d))) (le_trans (le_of_eq (sym (pow-add 2 p (half d)))) (pow_mono (fits_in f d (less_digits (p - 1 + (p + d)) (E + l + l) q))))

-- ---- the root of x: its digits, the places dropped, and what holds of them
pub record Rooted (f : Format) (x : Float) : Type 0 where
  pub s : ℕ
  pub k : ℕ
  pub root : IsRoot (prec f) (num x) (den x) s (minus k (low f))
  pub fine : s * 2 ^ k < 2 ^ (low f + suc (emax f))
  pub is : sqrt_of f x ≡ units f false s k

rooted : (f : Format) (m : ℕ) (e : ℤ) → Held f m e → Rooted f (fin false (suc m) e)
rooted f m e h =
    let p = prec f in
    let l = low f in
    let P = two-le_pos p (two f) in
    let u = in_units e l h.fine in
    let i = u.0 in
    let A = suc m * 2 ^ i in
    let v : suc m * up e * 2 ^ l ≡ A * down e = mul_assoc (suc m) (up e) (2 ^ l) ∙ ap (λ (x : ℕ). suc m * x) u.1 ∙ sym (mul_assoc (suc m) (2 ^ i) (down e)) in
    let t = p - size (suc m) in
    let M = suc m * 2 ^ t in
    let d = i + l - (p + t) in
    let lo = full_least p m h.short in
    let hi = full_most p m h.short in
    let g : t + (p + d) ≡ i + l = spread p t i l (native.Mathlib.Nat.sub-le p (size (suc m))) (room f) in
    let w : A * 2 ^ l ≡ M * 2 ^ (p + d) = mul_assoc (suc m) (2 ^ i) (2 ^ l) ∙ ap (λ (x : ℕ). suc m * x) (sym (pow-add 2 i l) ∙ ap (λ (x : ℕ). 2 ^ x) (sym g) ∙ pow-add 2 t (p + d)) ∙ sym (mul_assoc (suc m) (2 ^ t) (2 ^ (p + d))) in
    let n = wide p M d in
    let k = half d in
    let ww : A * 2 ^ l ≡ n * sq (2 ^ k) = w ∙ sym (wide_is p M d P) in
    let lo' = wide_least p M d P lo in
    let hi' = wide_most p M d hi in
    record {
      s = near_root p n;
      k = k;
      root = root_holds p (suc m * up e) (down e) n k l (down_pos e)
          (sym (mul_assoc (suc m * up e) (2 ^ l) (2 ^ l)) ∙ ap (λ (x : ℕ). x * 2 ^ l) v ∙ mul_right_comm A (down e) (2 ^ l) ∙ ap (λ (x : ℕ). x * down e) ww)
          lo' hi';
      fine = root_fine f A M d (near_root p n)
          (lt_of_mul-lt-mul_right (down e) (subst (λ (x : ℕ). x < 2 ^ suc (emax f) * 2 ^ l * down e) v (lt_of_lt_of_le (mul-lt-mul_of_pos_right h.small (pow_pos l)) (le_of_eq (mul_right_comm (2 ^ suc (emax f)) (down e) (2 ^ l))))))
          w lo (near_is p n lo' hi').most;
      is = sqrt_at f (fin false (suc m) e) A (refl, v) (mul-pos (zero-lt-suc m) (pow_pos i)) ∙ ap (λ (x : ℕ). root_of f x) w ∙ root_of_digits f M d lo hi;
    }
  where
    spread : (p t i l : ℕ) → t ≤ p → p + p ≤ l → t + (p + (i + l - (p + t))) ≡ i + l
    spread p t i l h k = omega arith

pub sqrt_rooted : (f : Format) (x : Float) → T (positive x) → T (fits f x) → Rooted f x
sqrt_rooted f nan p t = absurd p
sqrt_rooted f (inf s) p t = absurd p
sqrt_rooted f (fin true m e) p t = absurd p
sqrt_rooted f (fin false zero e) p t = absurd p
sqrt_rooted f (fin false (suc m) e) p t = rooted f m e (held f false m e t)

-- ---- `sqrt_of` gives a value of the format, and it is s · 2 ^ F
pub units_fit : (f : Format) (s k : ℕ) → s < 2 ^ prec f → s * 2 ^ k < 2 ^ (low f + suc (emax f)) → T (fits f (units f false s k))
unfolding units
units_fit f s k h g = go (ltb (s * 2 ^ k) (2 ^ (low f + suc (emax f)))) (lt→ltb (s * 2 ^ k) (2 ^ (low f + suc (emax f))) g)
  where
    go : (b : Bool) → T b → T (fits f (cond b (odd (suc (prec f)) false s k (low f)) (inf false)))
    go true t = odd-fits f (suc (prec f)) false s k (lt_of_lt_of_le h (pow_mono (native.Mathlib.Nat.le-suc (prec f)))) (le_of_lt h) g
    go false t = absurd t

pub root_fits : (f : Format) (x : Float) → Rooted f x → T (fits f (sqrt_of f x))
root_fits f x r = subst (λ (y : Float). T (fits f y)) (sym r.is) (units_fit f r.s r.k r.root.most r.fine)

pub root_units : (f : Format) (x : Float) → (r : Rooted f x) → HasValue (sqrt_of f x) false (r.s * 2 ^ r.k) (2 ^ low f)
root_units f x r = subst (λ (y : Float). HasValue y false (r.s * 2 ^ r.k) (2 ^ low f)) (sym r.is) (units_val f false r.s r.k r.fine)

pub root_value : (f : Format) (x : Float) → (r : Rooted f x) → HasValue (sqrt_of f x) false (r.s * up (minus r.k (low f))) (down (minus r.k (low f)))
root_value f x r = revalue (sqrt_of f x) false (r.s * 2 ^ r.k) (2 ^ low f) (r.s * up (minus r.k (low f))) (down (minus r.k (low f))) (pow_pos (low f)) (minus_val r.s r.k (low f)) (root_units f x r)

-- ---- The two together. For x finite and above zero there is such a pair, and `sqrt_of` is its number; and whatever value of the format is the number of such a pair is `sqrt_of`.
pub sqrt_exists : (f : Format) (x : Float) → T (positive x) → T (fits f x) → (s : ℕ) × (F : ℤ) × IsRoot (prec f) (num x) (den x) s F × HasValue (sqrt_of f x) false (s * up F) (down F)
sqrt_exists f x p t = let r = sqrt_rooted f x p t in (r.s, minus r.k (low f), r.root, root_value f x r)

pub sqrt_only : (f : Format) (x y : Float) (s : ℕ) (F : ℤ) → T (positive x) → T (fits f x) → T (fits f y) → IsRoot (prec f) (num x) (den x) s F → HasValue y false (s * up F) (down F) → y ≡ sqrt_of f x
sqrt_only f x y s F p t u h v =
    let r = sqrt_rooted f x p t in
    let q = root_one (prec f) (num x) (den x) s F r.s (minus r.k (low f)) (two-le_pos (prec f) (two f)) h r.root in
    same_value f y (sqrt_of f x) false (s * up F) (down F) u (root_fits f x r) (down_pos F) v
    (subst (λ (a : ℕ). HasValue (sqrt_of f x) false (a * up F) (down F)) (sym q.0) (subst (λ (G : ℤ). HasValue (sqrt_of f x) false (r.s * up G) (down G)) (sym q.1) (root_value f x r)))
