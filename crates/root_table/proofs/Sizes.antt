-- How large the parts of an estimate are, whatever the table holds. Assumes nothing.
use Prim.Native.Nat.{ℕ, ◌-◌, ◌*◌, ◌/◌, ◌%◌, ◌≤◌, ◌<◌}
use native.Mathlib.Nat.{le_of_lt, le_trans, mul-le-mul}
use native.Mathlib.Omega.{arith}
use lib.Dec.{lit≤}

-- along the chord
pub chord_small : (w t : ℕ) → t < 32768 → w / 1024 % 4194304 * t ≤ 137438953472
chord_small w t h = le_trans (mul-le-mul (digits w) (le_of_lt h)) (lit≤ tt)
  where
    digits : (w : ℕ) → w / 1024 % 4194304 ≤ 4194304
    digits w = omega arith

-- the bend's share of t, and the bend
pub share_small : (t : ℕ) → t < 32768 → t * (32768 - t) ≤ 1073741824
share_small t h = le_trans (mul-le-mul (le_of_lt h) (less t)) (lit≤ tt)
  where
    less : (t : ℕ) → 32768 - t ≤ 32768
    less t = omega arith

pub bend_small : (w t : ℕ) → t < 32768 → w % 1024 * (t * (32768 - t) / 8192) ≤ 134217728
bend_small w t h = le_trans (mul-le-mul (digits w) (shared (t * (32768 - t)) (share_small t h))) (lit≤ tt)
  where
    digits : (w : ℕ) → w % 1024 ≤ 1024
    digits w = omega arith

    shared : (x : ℕ) → x ≤ 1073741824 → x / 8192 ≤ 131072
    shared x l = omega arith
