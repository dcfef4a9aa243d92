-- A number has one root in a format: the pair (s, F) of `IsRoot` is the only one. Assumes nothing.
use mathlib.Core.Path.{◌≡◌, sym, ap, ◌∙◌, subst}
use mathlib.Core.Logic.{⊎_elim}
use Prim.Native.Nat.{ℕ, suc, ◌+◌, ◌-◌, ◌*◌, ◌^◌, ◌≤◌, ◌<◌}
use native.Mathlib.Nat.{le_trans, le_of_eq, le_of_lt, eq-or-lt_of_le, lt_of_lt_of_le, lt_of_le_of_lt, lt_of_not-le, lt_irrefl, mul-one, one-mul, mul_comm, mul_assoc, mul_left_comm, mul_right_comm, mul-le-mul_left, mul-le-mul_right, mul-lt-mul_of_pos_right, lt_of_mul-lt-mul_right, le_of_mul-le-mul_right, mul-pos, pow-succ'}
use native.Mathlib.Omega.{arith}
use mathlib.Core.Bool.{Bool, true, false, not, cond}
use lib.IntN.{ℤ, pos, negsuc}
use lib.Signed.{mag}
use lib.Dec.{T, leb, leb→le, nleb→lt}
use lib.Pow.{pow-add, pow_pos, pow_mono}
use lib.Ieee.{up, down, minus}
use lib.Ieee.Digits.{back}
use lib.Ieee.Fits.{down_pos}
use Rattle.numbers.specs.Root.{sq, IsRoot}
use Rattle.numbers.proofs.Floor.{sq-mul, sq_mono, sq_twice}

-- ---- the same with whole exponents: A is 4 · v · c · 4 ^ K
pub record At (H A c s i : ℕ) : Type 0 where
  pub least : H ≤ s
  pub most : s < 2 * H
  pub over : sq (2 * s - 1) * sq (2 ^ i) * c < A
  pub under : A < sq (2 * s + 1) * sq (2 ^ i) * c
  pub edge : s ≡ H → 4 * (sq s * sq (2 ^ i) * c) ≤ A

scaled : (x y u c : ℕ) → x ≤ y → x * u * c ≤ y * u * c
scaled x y u c h = mul-le-mul_right c (mul-le-mul_right u h)

-- the number lies between the powers 4 ^ i · (2H)² and 4 ^ i · (4H)²
from : (H A c s i : ℕ) → At H A c s i → sq (2 * H) * sq (2 ^ i) * c ≤ A
from H A c s i r =
    ⊎_elim
    (λ (e : H ≡ s). le_trans (le_of_eq (edged e)) (r.edge (sym e)))
    (λ (l : H < s). le_trans (scaled (sq (2 * H)) (sq (2 * s - 1)) (sq (2 ^ i)) c (sq_mono (next H s l))) (le_of_lt r.over))
    (eq-or-lt_of_le r.least)
  where
    next : (h s : ℕ) → h < s → 2 * h ≤ 2 * s - 1
    next h s l = omega arith

    edged : H ≡ s → sq (2 * H) * sq (2 ^ i) * c ≡ 4 * (sq s * sq (2 ^ i) * c)
    edged e = ap (λ (x : ℕ). x * sq (2 ^ i) * c) (sq_twice H) ∙ ap (λ (x : ℕ). 4 * sq x * sq (2 ^ i) * c) e ∙ ap (λ (x : ℕ). x * c) (mul_assoc 4 (sq s) (sq (2 ^ i))) ∙ mul_assoc 4 (sq s * sq (2 ^ i)) c

upto : (H A c s i : ℕ) → At H A c s i → A < sq (2 * (2 * H)) * sq (2 ^ i) * c
upto H A c s i r = lt_of_lt_of_le r.under (scaled (sq (2 * s + 1)) (sq (2 * (2 * H))) (sq (2 ^ i)) c (sq_mono (next H s r.most)))
  where
    next : (h s : ℕ) → s < 2 * h → 2 * s + 1 ≤ 2 * (2 * h)
    next h s l = omega arith

apart : (H A c s i t j : ℕ) → At H A c s i → At H A c t j → i < j → ⊥
apart H A c s i t j r q l = lt_irrefl A (lt_of_lt_of_le (upto H A c s i r) (le_trans (mul-le-mul_right c step) (from H A c t j q)))
  where
    step : sq (2 * (2 * H)) * sq (2 ^ i) ≤ sq (2 * H) * sq (2 ^ j)
    step = le_trans (le_of_eq (ap (λ (x : ℕ). x * sq (2 ^ i)) (sq-mul 2 (2 * H) ∙ mul_comm (sq 2) (sq (2 * H))) ∙ mul_assoc (sq (2 * H)) (sq 2) (sq (2 ^ i)) ∙ ap (λ (x : ℕ). sq (2 * H) * x) (sym (sq-mul 2 (2 ^ i)) ∙ ap sq (sym (pow-succ' 2 i)))))
        (mul-le-mul_left (sq (2 * H)) (sq_mono (pow_mono l)))

same_digits : (H A c s t i : ℕ) → At H A c s i → At H A c t i → s < t → ⊥
same_digits H A c s t i r q l = lt_irrefl A (lt_of_lt_of_le r.under (le_trans (scaled (sq (2 * s + 1)) (sq (2 * t - 1)) (sq (2 ^ i)) c (sq_mono (next s t l))) (le_of_lt q.over)))
  where
    next : (s t : ℕ) → s < t → 2 * s + 1 ≤ 2 * t - 1
    next s t l = omega arith

neither : (a b : ℕ) → (a < b → ⊥) → (b < a → ⊥) → a ≡ b
neither a b f g = ⊎_elim (λ e. e) (λ l. absurd (f l)) (eq-or-lt_of_le (le_of_not a b g))
  where
    le_of_not : (a b : ℕ) → (b < a → ⊥) → a ≤ b
    le_of_not a b g = native.Mathlib.Nat.le_of_suc-le-suc (lt_of_not-le g)

at_one : (H A c s i t j : ℕ) → At H A c s i → At H A c t j → (s ≡ t) × (i ≡ j)
at_one H A c s i t j r q =
    let e : i ≡ j = neither i j (apart H A c s i t j r q) (apart H A c t j s i q r) in
    let r' : At H A c s j = subst (λ (k : ℕ). At H A c s k) e r in
    (neither s t (same_digits H A c s t j r' q) (same_digits H A c t s j q r'), e)

-- ---- a whole exponent of F, once K is added to it
abbrev pub Lifted : ℤ → ℕ → ℕ → Type 0
Lifted F K i = (up F * 2 ^ K ≡ 2 ^ i * down F) × (minus i K ≡ F)

lifted : (F : ℤ) (K : ℕ) → mag F < K → (i : ℕ) × Lifted F K i
lifted (pos n) K h = (n + K, (sym (pow-add 2 n K) ∙ sym (mul-one (2 ^ (n + K))), go (leb K (n + K)) (nleb→lt K (n + K))))
  where
    low_off : (n K : ℕ) → n + K < K → ⊥
    low_off n K h = omega arith

    off : (n K : ℕ) → n + K - K ≡ n
    off n K = omega arith

    go : (b : Bool) → (T (not b) → n + K < K) → cond b (pos (n + K - K)) (negsuc (K - suc (n + K))) ≡ pos n
    go true g = ap pos (off n K)
    go false g = absurd (low_off n K (g tt))
lifted (negsuc n) K h = (K - suc n, (one-mul (2 ^ K) ∙ ap (λ (x : ℕ). 2 ^ x) (sym (back K (suc n) h)) ∙ pow-add 2 (K - suc n) (suc n), go (leb K (K - suc n)) (leb→le K (K - suc n))))
  where
    no_less : (n K : ℕ) → n < K → K ≤ K - suc n → ⊥
    no_less n K h g = omega arith

    off : (n K : ℕ) → n < K → K - suc (K - suc n) ≡ n
    off n K h = omega arith

    go : (b : Bool) → (T b → K ≤ K - suc n) → cond b (pos (K - suc n - K)) (negsuc (K - suc (K - suc n))) ≡ negsuc n
    go true g = absurd (no_less n K h (g tt))
    go false g = ap negsuc (off n K h)

-- ---- from one to the other
-- With U / D = I / L: X · (U / D)² · c against Y is X · (I / L)² · c against Y. Used both ways round.
left : (X c U D L I : ℕ) → U * L ≡ I * D → X * sq U * c * sq L ≡ X * sq I * c * sq D
left X c U D L I e = shape U L ∙ ap (λ (z : ℕ). X * z * c) (sym (sq-mul U L) ∙ ap sq e ∙ sq-mul I D) ∙ sym (shape I D)
  where
    shape : (u l : ℕ) → X * sq u * c * sq l ≡ X * (sq u * sq l) * c
    shape u l = simp (mul_assoc, mul_comm, mul_left_comm)

module _ (U D L I : ℕ) (e : U * L ≡ I * D) (dp : 0 < D) (lp : 0 < L) (X c Y : ℕ) where
  pub cross_lt : X * sq U * c < Y * sq D → X * sq I * c < Y * sq L
  cross_lt h = lt_of_mul-lt-mul_right (sq D) (subst (λ (x : ℕ). x < Y * sq L * sq D) (left X c U D L I e) (lt_of_lt_of_le (mul-lt-mul_of_pos_right h (mul-pos lp lp)) (le_of_eq (mul_right_comm Y (sq D) (sq L)))))

  pub cross_gt : Y * sq D < X * sq U * c → Y * sq L < X * sq I * c
  cross_gt h = lt_of_mul-lt-mul_right (sq D) (subst (λ (x : ℕ). Y * sq L * sq D < x) (left X c U D L I e) (lt_of_le_of_lt (le_of_eq (mul_right_comm Y (sq L) (sq D))) (mul-lt-mul_of_pos_right h (mul-pos lp lp))))

  pub cross_le : X * sq U * c ≤ Y * sq D → X * sq I * c ≤ Y * sq L
  cross_le h = le_of_mul-le-mul_right (subst (λ (x : ℕ). x ≤ Y * sq L * sq D) (left X c U D L I e) (le_trans (mul-le-mul_right (sq L) h) (le_of_eq (mul_right_comm Y (sq D) (sq L))))) (mul-pos dp dp)

pub at_of : (p a c K s : ℕ) (F : ℤ) (i : ℕ) → 0 < p → Lifted F K i → IsRoot p a c s F → At (2 ^ (p - 1)) (4 * a * sq (2 ^ K)) c s i
at_of p a c K s F i P l r = record {
  least = r.least;
  most = lt_of_lt_of_le r.most (le_of_eq (ap (λ (x : ℕ). 2 ^ x) (whole p P) ∙ pow-succ' 2 (p - 1)));
  over = cross_lt (up F) (down F) (2 ^ K) (2 ^ i) l.0 (down_pos F) (pow_pos K) (sq (2 * s - 1)) c (4 * a) r.over;
  under = cross_gt (up F) (down F) (2 ^ K) (2 ^ i) l.0 (down_pos F) (pow_pos K) (sq (2 * s + 1)) c (4 * a) r.under;
  edge = λ e. le_trans (mul-le-mul_left 4 (cross_le (up F) (down F) (2 ^ K) (2 ^ i) l.0 (down_pos F) (pow_pos K) (sq s) c a (r.edge e))) (le_of_eq (sym (mul_assoc 4 a (sq (2 ^ K)))));
}
  where
    whole : (p : ℕ) → 0 < p → p ≡ suc (p - 1)
    whole p P = omega arith

pub root_one : (p a c s : ℕ) (F : ℤ) (t : ℕ) (G : ℤ) → 0 < p → IsRoot p a c s F → IsRoot p a c t G → (s ≡ t) × (F ≡ G)
root_one p a c s F t G P r q =
    let K = suc (mag F + mag G) in
    let f = lifted F K (omega arith) in
    let g = lifted G K (omega arith) in
    let e = at_one (2 ^ (p - 1)) (4 * a * sq (2 ^ K)) c s f.0 t g.0 (at_of p a c K s F f.0 P f.1 r) (at_of p a c K t G g.0 P g.1 q) in
    (e.0, sym f.1.1 ∙ ap (λ (i : ℕ). minus i K) e.1 ∙ g.1.1)
