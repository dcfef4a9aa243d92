-- The test of a proposed root (R37): whoever proposes, what it accepts is the root, and the root is accepted. `Near` is the rule that `accepts` tests; the whole number that keeps it is the one next to the root. Assumes nothing.
use mathlib.Core.Path.{◌≡◌, sym, ◌∙◌, subst}
use mathlib.Core.Bool.{Bool, true, false, not, ◌&&◌, cond}
use Prim.Native.Nat.{ℕ, ◌+◌, ◌-◌, ◌*◌, ◌/◌, ◌^◌, ◌≤◌, ◌<◌}
use native.Mathlib.Nat.{le_of_lt, lt_of_lt_of_le, lt_of_le_of_lt}
use native.Mathlib.Omega.{arith}
use lib.Dec.{T, not_T, eqb, leb, ltb, leb→le, le→leb, ltb→lt, lt→ltb, nltb→le, eqb→eq}
use lib.Pow.{pow-add, pow_pos}
use lib.Ieee.{Float, Format, prec, low, up, down, minus, fits}
use lib.Ieee.Fits.{and_i, and_l, and_r}
use lib.Ieee.Bits.{is_true, is_false}
use lib.Ieee.Exact.{HasValue}
use lib.Ieee.Positive.{num, den, den_pos, positive}
use borrow.Author.Tests.{eq-eqb}
use Rattle.numbers.specs.Root.{sq, IsRoot, floor_root, near_root, sqrt_of}
use Rattle.numbers.specs.Proposed.{IsEntry, entry_in, accepts}
use Rattle.numbers.proofs.Floor.{Near, Floor, sq_next, sq_half, sq_twice, sq_odd_below, sq_mono, sq-below, floor_is, near_is, near_of_floor}
use Rattle.numbers.proofs.Exists.{near_holds, sqrt_only}

-- ---- an entry of the table: no larger number will do, and there is one only; it has 15 digits
pub entry_largest : (i e q : ℕ) → IsEntry i e → q * q ≤ i * 1048576 → q ≤ e
entry_largest i e q h l = let a : q < e + 1 = sq-below q (e + 1) (lt_of_le_of_lt l h.1) in omega arith

pub entry_one : (i e q : ℕ) → IsEntry i e → IsEntry i q → e ≡ q
entry_one i e q h k =
    let a : e ≤ q = entry_largest i q e k h.0 in
    let b : q ≤ e = entry_largest i e q h k.0 in
    omega arith

pub entry_small : (i e : ℕ) → i < 1024 → IsEntry i e → e < 32768
entry_small i e h k = sq-below e 32768 (lt_of_le_of_lt k.0 (omega arith))

-- e alone, with 48 zeros behind it, is a number that begins with it
pub entry_alone : (i e : ℕ) → IsEntry i e → IsEntry i (entry_in (e * 281474976710656))
entry_alone i e h = subst (λ (x : ℕ). IsEntry i x) (sym (cut e)) h
  where
    cut : (e : ℕ) → e * 281474976710656 / 281474976710656 ≡ e
    cut e = omega arith

-- ---- the test is a test of the rule
pub accepted : (p n s : ℕ) → T (accepts p n s) → Near p n s
unfolding accepts
accepted p n s t =
    let a : Bool = leb (2 ^ (p - 1)) s in
    let b : Bool = ltb s (2 ^ p) in
    let c : Bool = ltb (sq (2 * s - 1)) (4 * n) in
    let d : Bool = ltb (4 * n) (sq (2 * s + 1)) in
    let e : Bool = cond (eqb s (2 ^ (p - 1))) (leb (sq s) n) true in
    let u = and_l (a && b && c && d) e t in
    let v = and_l (a && b && c) d u in
    let w = and_l (a && b) c v in
    record {
      least = leb→le (2 ^ (p - 1)) s (and_l a b w);
      most = ltb→lt s (2 ^ p) (and_r a b w);
      over = ltb→lt (sq (2 * s - 1)) (4 * n) (and_r (a && b) c v);
      under = ltb→lt (4 * n) (sq (2 * s + 1)) (and_r (a && b && c) d u);
      edge = λ q. leb→le (sq s) n (subst (λ (z : Bool). T (cond z (leb (sq s) n) true)) (eq-eqb s (2 ^ (p - 1)) q) (and_r (a && b && c && d) e t));
    }

pub accepting : (p n s : ℕ) → Near p n s → T (accepts p n s)
unfolding accepts
accepting p n s r =
    let a : Bool = leb (2 ^ (p - 1)) s in
    let b : Bool = ltb s (2 ^ p) in
    let c : Bool = ltb (sq (2 * s - 1)) (4 * n) in
    let d : Bool = ltb (4 * n) (sq (2 * s + 1)) in
    let e : Bool = cond (eqb s (2 ^ (p - 1))) (leb (sq s) n) true in
    and_i (a && b && c && d) e
    (and_i (a && b && c) d
    (and_i (a && b) c
    (and_i a b (le→leb (2 ^ (p - 1)) s r.least) (lt→ltb s (2 ^ p) r.most))
    (lt→ltb (sq (2 * s - 1)) (4 * n) r.over))
    (lt→ltb (4 * n) (sq (2 * s + 1)) r.under))
    (at_edge (eqb s (2 ^ (p - 1))) (λ t. r.edge (eqb→eq s (2 ^ (p - 1)) t)))
  where
    at_edge : (z : Bool) → (T z → sq s ≤ n) → T (cond z (leb (sq s) n) true)
    at_edge true f = le→leb (sq s) n (f tt)
    at_edge false f = tt

pub accepts_yes : (p n s : ℕ) → Near p n s → accepts p n s ≡ true
accepts_yes p n s r = is_true (accepts p n s) (accepting p n s r)

pub accepts_no : (p n s : ℕ) → (Near p n s → ⊥) → accepts p n s ≡ false
accepts_no p n s g = is_false (accepts p n s) (not_T (accepts p n s) (λ t. g (accepted p n s t)))

-- ---- both inequalities as the code asks them, without the 4 and the odd numbers
above_zero : (p n s : ℕ) → Near p n s → 0 < s
above_zero p n s r = lt_of_lt_of_le (pow_pos (p - 1)) r.least

pub near_over : (p n s : ℕ) → Near p n s → s * s < n + s
near_over p n s r = let a = sq_odd_below s (above_zero p n s r) in let b = r.over in omega arith

pub near_under : (p n s : ℕ) → Near p n s → n ≤ s * s + s
near_under p n s r = let a = sq_half s in let b = r.under in omega arith

pub near_of : (p n s : ℕ) → 2 ^ (p - 1) ≤ s → s < 2 ^ p → s * s < n + s → n ≤ s * s + s → (s ≡ 2 ^ (p - 1) → s * s ≤ n) → Near p n s
near_of p n s lo hi o u e = record {
  least = lo;
  most = hi;
  over = (let a = sq_odd_below s (lt_of_lt_of_le (pow_pos (p - 1)) lo) in omega arith);
  under = (let a = sq_half s in omega arith);
  edge = e;
}

-- ---- what keeps the rule is the whole number next to the root
few_digits : (p n s : ℕ) → Near p n s → n < 2 ^ (p + p)
few_digits p n s r =
    let h : n < sq (s + 1) = (let a = near_under p n s r in let b = sq_next s in omega arith) in
    lt_of_lt_of_le h (subst (λ (x : ℕ). sq (s + 1) ≤ x) (sym (pow-add 2 p p)) (sq_mono (up_one s (2 ^ p) r.most)))
  where
    up_one : (s q : ℕ) → s < q → s + 1 ≤ q
    up_one s q h = omega arith

pub near_root_lem : (p n s : ℕ) → Near p n s → s ≡ near_root p n
near_root_lem p n s r =
    let w = floor_root p n in
    let h = few_digits p n s r in
    let k : Floor n w = floor_is p n h in
    go w k (ltb (4 * n) (sq (2 * w + 1))) (ltb→lt (4 * n) (sq (2 * w + 1))) (nltb→le (4 * n) (sq (2 * w + 1))) ∙ sym (near_of_floor p n w h k)
  where
    go : (w : ℕ) → Floor n w → (b : Bool) → (T b → 4 * n < sq (2 * w + 1)) → (T (not b) → sq (2 * w + 1) ≤ 4 * n) → s ≡ cond b w (w + 1)
    go w k true l g =
        let x : 2 * s - 1 < 2 * w + 1 = sq-below (2 * s - 1) (2 * w + 1) (lt_of_lt_of_le r.over (le_of_lt (l tt))) in
        let y : 2 * w < 2 * s + 1 = sq-below (2 * w) (2 * s + 1) (lt_of_le_of_lt (let e = sq_twice w in let q = k.0 in omega arith) r.under) in
        omega arith
    go w k false l g =
        let x : 2 * s - 1 < 2 * (w + 1) = sq-below (2 * s - 1) (2 * (w + 1)) (lt_of_lt_of_le r.over (let e = sq_twice (w + 1) in let q = k.1 in omega arith)) in
        let y : 2 * w + 1 < 2 * s + 1 = sq-below (2 * w + 1) (2 * s + 1) (lt_of_le_of_lt (g tt) r.under) in
        omega arith

-- ---- Whatever is proposed, what is accepted is the root; and of the numbers that a float leads to exactly the root is accepted.
pub accepted_root : (p n s : ℕ) → accepts p n s ≡ true → s ≡ near_root p n
accepted_root p n s t = near_root_lem p n s (accepted p n s (subst T (sym t) tt))

pub root_accepted : (p n : ℕ) → sq (2 ^ (p - 1)) ≤ n → n + 2 ^ p ≤ sq (2 ^ p) → accepts p n (near_root p n) ≡ true
root_accepted p n lo hi = accepts_yes p n (near_root p n) (near_is p n lo hi)

-- the same of s and F: the number s·2^F is the root that R10 says of the fraction n·4^F
pub accepted_rule : (p a c n k l s : ℕ) → 0 < c → a * sq (2 ^ l) ≡ n * sq (2 ^ k) * c → accepts p n s ≡ true → IsRoot p a c s (minus k l)
accepted_rule p a c n k l s C e t = near_holds p a c n k l s C e (accepted p n s (subst T (sym t) tt))

-- and of floats, in either format: a value y of the format that is s·2^F is the root of x
pub accepted_sqrt : (f : Format) (x y : Float) (n k s : ℕ) → T (positive x) → T (fits f x) → T (fits f y) → num x * sq (2 ^ low f) ≡ n * sq (2 ^ k) * den x → accepts (prec f) n s ≡ true → HasValue y false (s * up (minus k (low f))) (down (minus k (low f))) → y ≡ sqrt_of f x
accepted_sqrt f x y n k s p t u e a v = sqrt_only f x y s (minus k (low f)) p t u (accepted_rule (prec f) (num x) (den x) n k (low f) s (den_pos x) e a) v
