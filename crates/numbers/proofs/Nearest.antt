-- The other values of a format lie a whole step or more from `sqrt_of`, and the true root less than half a step; where the step below is half as wide, the true root is not below. Assumes nothing.
use mathlib.Core.Path.{◌≡◌, refl, sym, ap, ap₂, ◌∙◌, subst}
use mathlib.Core.Logic.{◌⊎◌, ⊎_elim, inl, inr}
use Prim.Native.Nat.{ℕ, zero, suc, ◌+◌, ◌-◌, ◌*◌, ◌^◌, ◌≤◌, ◌<◌, zero-le}
use native.Mathlib.Nat.{le_trans, le_of_eq, le_of_lt, eq-or-lt_of_le, lt_of_lt_of_le, lt_of_le_of_lt, lt_irrefl, zero-mul, one-mul, mul_comm, mul_assoc, mul_right_comm, mul-le-mul_left, mul-le-mul_right, mul-lt-mul_of_pos_right, lt_of_mul-lt-mul_right, mul-pos, add-zero, add-mul, suc-mul, sub-le}
use native.Mathlib.Omega.{arith}
use mathlib.Core.Bool.{Bool, true, false, not}
use lib.IntN.{ℤ}
use lib.Dec.{T, leb, leb→le, nleb→lt}
use lib.Pow.{pow-add, pow_pos, pow_mono}
use lib.Ieee.{Float, nan, inf, fin, Format, prec, low, up, down, minus, fits}
use lib.Ieee.Digits.{back, minus_val}
use lib.Ieee.Fits.{down_pos, two, two-le_pos}
use lib.Ieee.Positive.{num, den, den_pos, positive, value→cross}
use Rattle.numbers.specs.Root.{sq, sqrt_of}
use Rattle.numbers.specs.Nearer.{OnSide, Nearer}
use Rattle.numbers.proofs.Floor.{sq-mul, sq_mono, sq_twice}
use Rattle.numbers.proofs.Unique.{At, at_of, cross_lt, cross_gt}
use Rattle.numbers.proofs.Exists.{Rooted, held, in_units, sqrt_rooted, root_fits, root_units}
use Rattle.numbers.proofs.Same.{same_value}

-- of two numbers one is at most the other
either : (a b : ℕ) → (a ≤ b) ⊎ (b < a)
either a b = go (leb a b) (leb→le a b) (nleb→lt a b)
  where
    go : (t : Bool) → (T t → a ≤ b) → (T (not t) → b < a) → (a ≤ b) ⊎ (b < a)
    go true l g = inl (l tt)
    go false l g = inr (g tt)

-- ---- the values of a format of p digits, in units: below H · K or a multiple of K, for H = 2 ^ (p - 1) and any power K of 2
abbrev Spaced : (H K Y : ℕ) → Type 0
Spaced H K Y = (Y < H * K) ⊎ ((t : ℕ) × (Y ≡ t * K))

-- q · 2 ^ i with q of p digits is such a value
spaced : (p q i k : ℕ) → 0 < p → q < 2 ^ p → Spaced (2 ^ (p - 1)) (2 ^ k) (q * 2 ^ i)
spaced p q i k P h =
    ⊎_elim
    (λ (l : k ≤ i). inr (q * 2 ^ (i - k), ap (λ (x : ℕ). q * x) (ap (λ (x : ℕ). 2 ^ x) (sym (back i k l)) ∙ pow-add 2 (i - k) k) ∙ sym (mul_assoc q (2 ^ (i - k)) (2 ^ k))))
    (λ (l : i < k). inl (lt_of_lt_of_le (mul-lt-mul_of_pos_right h (pow_pos i)) (le_trans (le_of_eq (sym (pow-add 2 p i))) (le_trans (pow_mono (shape p i k P l)) (le_of_eq (pow-add 2 (p - 1) k))))))
    (either k i)
  where
    shape : (p i k : ℕ) → 0 < p → i < k → p + i ≤ p - 1 + k
    shape p i k P l = omega arith

-- such a value below s · K is a whole step K below it, if s is above H
step_down : (H K Y s : ℕ) → Spaced H K Y → H < s → Y < s * K → Y + K ≤ s * K
step_down H K Y s y h l =
    ⊎_elim
    (λ (b : Y < H * K). le_trans (shape Y (H * K) K b) (next H h))
    (λ (t : (t : ℕ) × (Y ≡ t * K)). le_trans (le_of_eq (ap (λ (x : ℕ). x + K) t.1)) (next t.0 (lt_of_mul-lt-mul_right K (subst (λ (x : ℕ). x < s * K) t.1 l))))
    y
  where
    shape : (y h k : ℕ) → y < h → y + k ≤ h + k
    shape y h k l = omega arith

    next : (t : ℕ) → t < s → t * K + K ≤ s * K
    next t l = le_trans (le_of_eq (sym (suc-mul t K))) (mul-le-mul_right K l)

-- such a value above s · K is a whole step K above it
step_up : (H K Y s : ℕ) → Spaced H K Y → H ≤ s → s * K < Y → s * K + K ≤ Y
step_up H K Y s y h l =
    ⊎_elim
    (λ (b : Y < H * K). absurd (lt_irrefl Y (lt_of_lt_of_le b (le_trans (mul-le-mul_right K h) (le_of_lt l)))))
    (λ (t : (t : ℕ) × (Y ≡ t * K)). le_trans (le_of_eq (sym (suc-mul s K))) (le_trans (mul-le-mul_right K (lt_of_mul-lt-mul_right K (subst (λ (x : ℕ). s * K < x) t.1 l))) (le_of_eq (sym t.1))))
    y

-- ---- the true root lies on the root's side of the middle, said of squares: A is 4 · v · c · 4 ^ l, and the root is s · 2 ^ k
-- a larger number has a larger square
sq_less : {a b : ℕ} → a < b → sq a < sq b
sq_less {a} {b} h = lt_of_le_of_lt (mul-le-mul_left a (le_of_lt h)) (mul-lt-mul_of_pos_right h (lt_of_le_of_lt zero-le h))

module _ (H A c s k Y : ℕ) (C : 0 < c) (r : At H A c s k) (y : Spaced H (2 ^ k) Y) where
  -- against a value Y below the root
  below : Y < s * 2 ^ k → sq (s * 2 ^ k + Y) * c < A
  below l =
      ⊎_elim
      (λ (e : H ≡ s). lt_of_lt_of_le (mul-lt-mul_of_pos_right (sq_less (twice (s * 2 ^ k) Y l)) C) (le_trans (le_of_eq four) (r.edge (sym e))))
      (λ (h : H < s). lt_of_le_of_lt (mul-le-mul_right c (le_trans (sq_mono (shape (s * 2 ^ k) Y (2 ^ k) ((2 * s - 1) * 2 ^ k) (step_down H (2 ^ k) Y s y h l) (less H s h))) (le_of_eq (sq-mul (2 * s - 1) (2 ^ k))))) r.over)
      (eq-or-lt_of_le r.least)
    where
      twice : (S Y : ℕ) → Y < S → S + Y < 2 * S
      twice S Y l = omega arith

      four : sq (2 * (s * 2 ^ k)) * c ≡ 4 * (sq s * sq (2 ^ k) * c)
      four = ap (λ (x : ℕ). x * c) (sq_twice (s * 2 ^ k) ∙ ap (λ (x : ℕ). 4 * x) (sq-mul s (2 ^ k))) ∙ mul_assoc 4 (sq s * sq (2 ^ k)) c

      shape : (S Y K W : ℕ) → Y + K ≤ S → W + K ≡ 2 * S → S + Y ≤ W
      shape S Y K W h e = omega arith

      pred : (h s : ℕ) → h < s → suc (2 * s - 1) ≡ 2 * s
      pred h s l = omega arith

      less : (h s : ℕ) → h < s → (2 * s - 1) * 2 ^ k + 2 ^ k ≡ 2 * (s * 2 ^ k)
      less h s l = sym (suc-mul (2 * s - 1) (2 ^ k)) ∙ ap (λ (x : ℕ). x * 2 ^ k) (pred h s l) ∙ mul_assoc 2 s (2 ^ k)

  -- against a value Y above it
  above : s * 2 ^ k < Y → A < sq (s * 2 ^ k + Y) * c
  above l = lt_of_lt_of_le r.under (mul-le-mul_right c (le_trans (le_of_eq (sym (sq-mul (2 * s + 1) (2 ^ k)))) (sq_mono (shape (s * 2 ^ k) Y (2 ^ k) ((2 * s + 1) * 2 ^ k) (step_up H (2 ^ k) Y s y r.least l) more))))
    where
      shape : (S Y K W : ℕ) → S + K ≤ Y → W ≡ 2 * S + K → W ≤ S + Y
      shape S Y K W h e = omega arith

      more : (2 * s + 1) * 2 ^ k ≡ 2 * (s * 2 ^ k) + 2 ^ k
      more = add-mul (2 * s) 1 (2 ^ k) ∙ ap₂ (λ (i j : ℕ). i + j) (mul_assoc 2 s (2 ^ k)) (one-mul (2 ^ k))

-- ---- back to fractions: x / D = X / L
-- their order
order : (x y X Y D L : ℕ) → 0 < D → x * L ≡ X * D → y * L ≡ Y * D → X < Y → x < y
order x y X Y D L P e g h = lt_of_mul-lt-mul_right L (lt_of_le_of_lt (le_of_eq e) (lt_of_lt_of_le (mul-lt-mul_of_pos_right h P) (le_of_eq (sym g))))

-- their squares against w, both ways round
module _ (x X D L c w : ℕ) (P : 0 < D) (Q : 0 < L) (e : x * L ≡ X * D) where
  square_lt : sq X * c < w * sq L → sq x * c < w * sq D
  square_lt h = rw one-mul at (cross_lt X L D x (sym e) Q P 1 c w (rw one-mul h))

  square_gt : w * sq L < sq X * c → w * sq D < sq x * c
  square_gt h = rw one-mul at (cross_gt X L D x (sym e) Q P 1 c w (rw one-mul h))

-- the fraction b / d over the denominator d · h
widen : (b d h S L : ℕ) → b * L ≡ S * d → b * h * L ≡ S * (d * h)
widen b d h S L e = mul_right_comm b h L ∙ ap (λ (x : ℕ). x * h) e ∙ mul_assoc S d h

-- ---- the root b / d = s · 2 ^ k / L of a / c, and another value g / h
module _ (H a c s k b d g h L : ℕ) (C : 0 < c) (D : 0 < d) (E : 0 < h) (Q : 0 < L) (r : At H (4 * a * sq L) c s k) (e : b * L ≡ s * 2 ^ k * d) where
  -- the root over the common denominator
  root_wide : b * h * L ≡ s * 2 ^ k * (d * h)
  root_wide = widen b d h (s * 2 ^ k) L e

  -- the other value at or above zero: it is Y / L
  on_side : (Y : ℕ) → Spaced H (2 ^ k) Y → g * L ≡ Y * h → (Y ≡ s * 2 ^ k → ⊥) → OnSide a c b d g h
  on_side Y y v n =
      ⊎_elim
      (λ (l : Y ≤ s * 2 ^ k).
      ⊎_elim
      (λ q. absurd (n q))
      (λ q. inl (order (g * d) (b * h) Y (s * 2 ^ k) (d * h) L (mul-pos D E) other root_wide q, square_lt (b * h + g * d) (s * 2 ^ k + Y) (d * h) L c (4 * a) (mul-pos D E) Q both (below H (4 * a * sq L) c s k Y C r y q)))
      (eq-or-lt_of_le l))
      (λ q. inr (order (b * h) (g * d) (s * 2 ^ k) Y (d * h) L (mul-pos D E) root_wide other q, square_gt (b * h + g * d) (s * 2 ^ k + Y) (d * h) L c (4 * a) (mul-pos D E) Q both (above H (4 * a * sq L) c s k Y C r y q)))
      (either Y (s * 2 ^ k))
    where
      other : g * d * L ≡ Y * (d * h)
      other = widen g h d Y L v ∙ ap (λ (x : ℕ). Y * x) (mul_comm h d)

      both : (b * h + g * d) * L ≡ (s * 2 ^ k + Y) * (d * h)
      both = add-mul (b * h) (g * d) L ∙ ap₂ (λ (i j : ℕ). i + j) root_wide other ∙ sym (add-mul (s * 2 ^ k) Y (d * h))

  -- the other value below zero, −g / h: its middle with the root lies below the middle of 0 and the root
  under_zero : 0 < H → sq (b * h - g * d) * c < 4 * a * sq (d * h)
  under_zero Z =
      lt_of_le_of_lt (mul-le-mul_right c (sq_mono (sub-le (b * h) (g * d))))
      (square_lt (b * h) (s * 2 ^ k) (d * h) L c (4 * a) (mul-pos D E) Q root_wide
      (rw add-zero at (below H (4 * a * sq L) c s k 0 C r (inr (0, sym (zero-mul (2 ^ k)))) (mul-pos (lt_of_lt_of_le Z r.least) (pow_pos k)))))

-- ---- the two in a format
-- a finite value of the format in units, whatever its sign
pub in_steps : (f : Format) (s : Bool) (m : ℕ) (e : ℤ) → T (fits f (fin s m e)) → (Y : ℕ) × ((k : ℕ) → Spaced (2 ^ (prec f - 1)) (2 ^ k) Y) × (m * up e * 2 ^ low f ≡ Y * down e)
in_steps f s zero e t = (0, (λ k. inr (0, sym (zero-mul (2 ^ k)))), ap (λ (x : ℕ). x * 2 ^ low f) (zero-mul (up e)) ∙ zero-mul (2 ^ low f) ∙ sym (zero-mul (down e)))
in_steps f s (suc m) e t =
    let h = held f s m e t in
    let u = in_units e (low f) h.fine in (
      suc m * 2 ^ u.0,
      (λ k. spaced (prec f) (suc m) u.0 k (two-le_pos (prec f) (two f)) h.short),
      mul_assoc (suc m) (up e) (2 ^ low f) ∙ ap (λ (x : ℕ). suc m * x) u.1 ∙ sym (mul_assoc (suc m) (2 ^ u.0) (down e)),
    )

-- the root in units
at_root : (f : Format) (x : Float) (r : Rooted f x) → At (2 ^ (prec f - 1)) (4 * num x * sq (2 ^ low f)) (den x) r.s r.k
at_root f x r =
    let F = minus r.k (low f) in
    at_of (prec f) (num x) (den x) (low f) r.s F r.k (two-le_pos (prec f) (two f))
    (sym (ap (λ (z : ℕ). z * 2 ^ low f) (one-mul (up F))) ∙ minus_val 1 r.k (low f) ∙ ap (λ (z : ℕ). z * down F) (one-mul (2 ^ r.k)), refl)
    r.root

-- For every value y of the format other than the root r of x, the true root of x lies strictly nearer to r than to y.
pub root_nearest : (f : Format) (x y : Float) → T (positive x) → T (fits f x) → T (fits f y) → (y ≡ sqrt_of f x → ⊥) → Nearer x (sqrt_of f x) y
root_nearest f x nan p t u n = tt
root_nearest f x (inf s) p t u n = tt
root_nearest f x (fin false m e) p t u n =
    let r = sqrt_rooted f x p t in
    let R = sqrt_of f x in
    let v = in_steps f false m e u in
    on_side (2 ^ (prec f - 1)) (num x) (den x) r.s r.k (num R) (den R) (m * up e) (down e) (2 ^ low f) (den_pos x) (den_pos R) (down_pos e) (pow_pos (low f)) (at_root f x r) (value→cross R (r.s * 2 ^ r.k) (2 ^ low f) (root_units f x r))
    v.0 (v.1 r.k) v.2
    (λ q. n (same_value f (fin false m e) R false (r.s * 2 ^ r.k) (2 ^ low f) u (root_fits f x r) (pow_pos (low f)) (refl, v.2 ∙ ap (λ (z : ℕ). z * down e) q) (root_units f x r)))
root_nearest f x (fin true m e) p t u n =
    let r = sqrt_rooted f x p t in
    let R = sqrt_of f x in
    under_zero (2 ^ (prec f - 1)) (num x) (den x) r.s r.k (num R) (den R) (m * up e) (down e) (2 ^ low f) (den_pos x) (den_pos R) (down_pos e) (pow_pos (low f)) (at_root f x r) (value→cross R (r.s * 2 ^ r.k) (2 ^ low f) (root_units f x r)) (pow_pos (prec f - 1))
