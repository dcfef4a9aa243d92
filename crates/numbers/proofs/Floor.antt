-- The whole part of a root, and the whole number next to it. Nothing here is about floats. Assumes nothing.
use mathlib.Core.Path.{◌≡◌, sym, ap, ◌∙◌, subst}
use Prim.Native.Nat.{ℕ, zero, suc, ◌+◌, ◌-◌, ◌*◌, ◌/◌, ◌^◌, ◌≤◌, ◌<◌}
use native.Mathlib.Nat.{le_trans, eq-or-lt_of_le, lt_of_lt_of_le, lt_of_le_of_lt, lt_of_not-le, not-le_of_lt, lt_irrefl, add-mul, mul-add, mul-one, one-mul, mul_assoc, mul_left_comm, mul-le-mul}
use native.Mathlib.Omega.{arith}
use native.Mathlib.Numerals.{add-one}
use mathlib.Core.Logic.{⊎_elim}
use mathlib.Core.Bool.{Bool, true, false, not, cond}
use lib.Dec.{T, leb, ltb, leb→le, nleb→lt, ltb→lt, nltb→le}
use lib.Pow.{pow-add, pow_pos}
use Rattle.numbers.specs.Root.{sq, floor_root, near_root}

pub sq-mul : (a b : ℕ) → sq (a * b) ≡ sq a * sq b
sq-mul a b = simp (mul_assoc, mul_left_comm)

pub sq_next : (r : ℕ) → sq (r + 1) ≡ sq r + 2 * r + 1
sq_next r = simp (add-mul, mul-add, one-mul, mul-one) (omega arith)

pub sq_twice : (r : ℕ) → sq (2 * r) ≡ 4 * sq r
sq_twice r = sq-mul 2 r

pub sq_half : (r : ℕ) → sq (2 * r + 1) ≡ 4 * sq r + 4 * r + 1
sq_half r = sq_next (2 * r) ∙ (let e : sq (2 * r) ≡ 4 * sq r = sq_twice r in omega arith)

pub sq_odd_below : (s : ℕ) → 0 < s → sq (2 * s - 1) + 4 * s ≡ 4 * sq s + 1
sq_odd_below zero h = absurd (lt_irrefl 0 h)
sq_odd_below (suc r) h = rw (← add-one r) (go r (sq_half r) (sq_next r))
  where
    shape : (r : ℕ) → 2 * (r + 1) - 1 ≡ 2 * r + 1
    shape r = omega arith

    go : (r : ℕ) → sq (2 * r + 1) ≡ 4 * sq r + 4 * r + 1 → sq (r + 1) ≡ sq r + 2 * r + 1 → sq (2 * (r + 1) - 1) + 4 * (r + 1) ≡ 4 * sq (r + 1) + 1
    go r a b = ap (λ (x : ℕ). sq x + 4 * (r + 1)) (shape r) ∙ omega arith

pub sq_mono : {a b : ℕ} → a ≤ b → sq a ≤ sq b
sq_mono h = mul-le-mul h h

pub sq-below : (a b : ℕ) → sq a < sq b → a < b
sq-below a b h = lt_of_not-le (λ (g : b ≤ a). not-le_of_lt h (sq_mono g))

-- ---- the whole part
abbrev pub Floor : ℕ → ℕ → Type 0
Floor n r = (sq r ≤ n) × (n < sq (r + 1))

pub floor_one : (n r q : ℕ) → Floor n r → Floor n q → r ≡ q
floor_one n r q h k =
    let a : r < q + 1 = sq-below r (q + 1) (lt_of_le_of_lt h.0 k.1) in
    let b : q < r + 1 = sq-below q (r + 1) (lt_of_le_of_lt k.0 h.1) in
    omega arith

four_pow : (k : ℕ) → 2 ^ (suc k + suc k) ≡ 2 ^ (k + k) * 4
four_pow k = ap (λ (i : ℕ). 2 ^ i) (shape k) ∙ pow-add 2 (k + k) 2
  where
    shape : (k : ℕ) → suc k + suc k ≡ k + k + 2
    shape k = omega arith

-- a digit more: r is the whole part of the root of n / 4
le_suc' : (r : ℕ) → r ≤ r + 1
le_suc' r = omega arith

digit : (n r : ℕ) → Floor (n / 4) r → Floor n (cond (leb (sq (2 * r + 1)) n) (2 * r + 1) (2 * r))
digit n r h = go (leb (sq (2 * r + 1)) n) (leb→le (sq (2 * r + 1)) n) (nleb→lt (sq (2 * r + 1)) n)
  where
    go : (b : Bool) → (T b → sq (2 * r + 1) ≤ n) → (T (not b) → n < sq (2 * r + 1)) → Floor n (cond b (2 * r + 1) (2 * r))
    go true l g = (l tt, (let a = sq_next r in let b = sq_half r in let d = sq_next (2 * r + 1) in omega arith))
    go false l g = ((let a = sq_twice r in omega arith), g tt)

pub floor_is : (k n : ℕ) → n < 2 ^ (k + k) → Floor n (floor_root k n)
unfolding floor_root
floor_is zero n h = omega arith
floor_is (suc k) n h = digit n (floor_root k (n / 4)) (floor_is k (n / 4) (let e = four_pow k in omega arith))

-- ---- the whole number next to the root of n, for n of 2p - 1 or 2p digits. There is no tie: 4n is even and (2r + 1)² is odd.
-- A number of p digits with p or p - 1 zeros after it is at most (2 ^ p - 1) * 2 ^ p, and the root of that is not past the half below 2 ^ p.
pub record Near (p n s : ℕ) : Type 0 where
  pub least : 2 ^ (p - 1) ≤ s
  pub most : s < 2 ^ p
  pub over : sq (2 * s - 1) < 4 * n
  pub under : 4 * n < sq (2 * s + 1)
  pub edge : s ≡ 2 ^ (p - 1) → sq s ≤ n

clash : (s h : ℕ) → h ≤ s → s + 1 ≡ h → ⊥
clash s h l e = omega arith

over_low : (n r : ℕ) → 0 < r → sq r ≤ n → sq (2 * r - 1) < 4 * n
over_low n r h k = let a = sq_odd_below r h in omega arith

no_carry : (n r : ℕ) → sq (2 * r + 1) ≤ 4 * n → n + (r + 1) ≤ sq (r + 1) → ⊥
no_carry n r h k = let a = sq_half r in let b = sq_next r in omega arith

up_one : (r q : ℕ) → r < q → r + 1 ≤ q
up_one r q h = omega arith

near : (p n r : ℕ) → sq (2 ^ (p - 1)) ≤ n → n + 2 ^ p ≤ sq (2 ^ p) → Floor n r → Near p n (cond (ltb (4 * n) (sq (2 * r + 1))) r (r + 1))
near p n r lo hi h = go (ltb (4 * n) (sq (2 * r + 1))) (ltb→lt (4 * n) (sq (2 * r + 1))) (nltb→le (4 * n) (sq (2 * r + 1)))
  where
    at_least : 2 ^ (p - 1) ≤ r
    at_least = let a : 2 ^ (p - 1) < r + 1 = sq-below (2 ^ (p - 1)) (r + 1) (lt_of_le_of_lt lo h.1) in omega arith

    at_most : r < 2 ^ p
    at_most = sq-below r (2 ^ p) (lt_of_le_of_lt h.0 (let z = pow_pos p in omega arith))

    go : (b : Bool) → (T b → 4 * n < sq (2 * r + 1)) → (T (not b) → sq (2 * r + 1) ≤ 4 * n) → Near p n (cond b r (r + 1))
    go true l g = record {
      least = at_least;
      most = at_most;
      over = over_low n r (lt_of_lt_of_le (pow_pos (p - 1)) at_least) h.0;
      under = l tt;
      edge = λ e. h.0;
    }
    go false l g = record {
      least = le_trans at_least (le_suc' r);
      most = ⊎_elim (λ e. absurd (no_carry n r (g tt) (subst (λ (q : ℕ). n + q ≤ sq q) (sym e) hi))) (λ l. l) (eq-or-lt_of_le (up_one r (2 ^ p) at_most));
      over = (let a = sq_odd_below (r + 1) (omega arith) in let b = sq_next r in let c = sq_half r in let d = g tt in omega arith);
      under = (let a = sq_next r in let b = sq_half (r + 1) in omega arith);
      edge = λ e. absurd (clash r (2 ^ (p - 1)) at_least e);
    }

under_top : (n q : ℕ) → 0 < q → n + q ≤ sq q → n < sq q
under_top n q Q h = omega arith

pub near_is : (p n : ℕ) → sq (2 ^ (p - 1)) ≤ n → n + 2 ^ p ≤ sq (2 ^ p) → Near p n (near_root p n)
unfolding near_root
near_is p n lo hi = near p n (floor_root p n) lo hi (floor_is p n (subst (λ (x : ℕ). n < x) (sym (pow-add 2 p p)) (under_top n (2 ^ p) (pow_pos p) hi)))

-- a whole part found in any way gives the same
pub near_of_floor : (p n r : ℕ) → n < 2 ^ (p + p) → Floor n r → near_root p n ≡ cond (ltb (4 * n) (sq (2 * r + 1))) r (r + 1)
unfolding near_root
near_of_floor p n r h k = ap (λ (q : ℕ). cond (ltb (4 * n) (sq (2 * q + 1))) q (q + 1)) (floor_one n (floor_root p n) r (floor_is p n h) k)
