-- The loop of `by_digits`, for a root of p binary digits: what holds before each turn, that a turn keeps it, and that the last one leaves the whole part of the root. Assumes nothing.
use mathlib.Core.Path.{◌≡◌, refl, ap, subst}
use Prim.Native.Nat.{ℕ, zero, suc, ◌+◌, ◌*◌, ◌/◌, ◌^◌, ◌≤◌, ◌<◌}
use native.Mathlib.Nat.{le_of_lt, lt_of_lt_of_le, lt_of_le_of_lt, zero-add, mul-le-mul_left, pow-succ'}
use native.Mathlib.Omega.{arith}
use lib.Pow.{pow-add, pow_pos, pow_mono, shl_lt}
use Rattle.numbers.specs.Root.{sq}
use Rattle.numbers.proofs.Floor.{Floor}

-- i digits are still to be found, the next of weight b: r is the root from below, and within 2 ^ i of it
pub record Turn (p n r b : ℕ) : Type 0 where
  pub i : ℕ
  pub half : b ≡ 2 ^ i / 2
  pub low : sq r ≤ n
  pub high : n < sq (r + 2 ^ i)
  pub room : r + 2 ^ i ≤ 2 ^ p

pub first : (p n : ℕ) → n < 2 ^ (p + p) → Turn p n 0 (2 ^ p / 2)
first p n h = record { i = p; half = refl; low = omega arith; high = rw (zero-add, ← pow-add) h; room = omega arith }

-- there is a digit to be found: b is 2 ^ j, and 2 ^ i is twice that
twice : (i b : ℕ) → b ≡ 2 ^ i / 2 → 0 < b → (j : ℕ) × (b ≡ 2 ^ j) × (2 ^ i ≡ b + b)
twice zero b e h = absurd (none b e h)
  where
    none : (b : ℕ) → b ≡ 0 → 0 < b → ⊥
    none b e h = omega arith
twice (suc j) b e h = let p : 2 ^ suc j ≡ 2 * 2 ^ j = pow-succ' 2 j in (j, omega arith, omega arith)

-- a turn that begins with a digit to be found
module _ (p n r b : ℕ) (t : Turn p n r b) (some : 0 < b) where
  next : (j : ℕ) × (b ≡ 2 ^ j) × (2 ^ t.i ≡ b + b)
  next = twice t.i b t.half some

  pub sum_room : r + b < 2 ^ p
  sum_room = omega (arith, t.room, next.2)

  -- the square fits a word of w bits
  pub square_room : (w : ℕ) → p + p ≤ w → (r + b) * (r + b) < 2 ^ w
  square_room w h = lt_of_le_of_lt (mul-le-mul_left (r + b) (le_of_lt sum_room)) (lt_of_lt_of_le (shl_lt p p sum_room) (pow_mono h))

  pub up : sq (r + b) ≤ n → Turn p n (r + b) (b / 2)
  up l =
      let e : r + 2 ^ t.i ≡ r + b + 2 ^ next.0 = omega (arith, next.1, next.2) in
      record { i = next.0; half = ap (λ (x : ℕ). x / 2) next.1; low = l; high = rw e at t.high; room = rw e at t.room }

  pub stay : n < sq (r + b) → Turn p n r (b / 2)
  stay l = record { i = next.0; half = ap (λ (x : ℕ). x / 2) next.1; low = t.low; high = rw next.1 at l; room = omega (arith, t.room, next.1, next.2) }

-- no digit is left
pub last : (p n r b : ℕ) → Turn p n r b → b ≤ 0 → Floor n r
last p n r b t h = (t.low, subst (λ (x : ℕ). n < sq (r + x)) (one (2 ^ t.i) b (pow_pos t.i) t.half h) t.high)
  where
    one : (q b : ℕ) → 0 < q → b ≡ q / 2 → b ≤ 0 → q ≡ 1
    one q b z e h = omega arith

pub halved : (b : ℕ) → 0 < b → b / 2 < b
halved b h = omega arith
