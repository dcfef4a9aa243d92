-- Where four columns of a row, or one column of four rows, stand in a buffer. Assumes nothing.
use mathlib.Core.Path.{◌≡◌, refl}
use Prim.Native.Nat.{ℕ, ◌+◌, ◌*◌, ◌≤◌}
use native.Mathlib.Nat.{add-mul, mul-le-mul_right}
use native.Mathlib.Omega.{arith}

-- p, and three places w apart after it, are these four
pub record Four (p w q0 q1 q2 q3 : ℕ) : Type 0 where
  pub first : p ≡ q0
  pub second : p + w ≡ q1
  pub third : p + w + w ≡ q2
  pub fourth : p + w + w + w ≡ q3

-- four columns from j on of the row that begins at `from`
pub columns : (from j : ℕ) → Four (from + j) 1 (from + j) (from + (j + 1)) (from + (j + 2)) (from + (j + 3))
columns from j = record { first = refl; second = omega arith; third = omega arith; fourth = omega arith }

-- column k of four rows from r on, each of w numbers
pub rows : (w r k p : ℕ) → p ≡ r * w + k → Four p w (r * w + k) ((r + 1) * w + k) ((r + 2) * w + k) ((r + 3) * w + k)
rows w r k p e = record {
  first = e;
  second = rw add-mul (omega arith);
  third = rw add-mul (omega arith);
  fourth = rw add-mul (omega arith);
}

-- four rows that a loop counts lie within a matrix of so many rows
pub rows_in : (n w r : ℕ) → r + 4 ≤ n → r * w + 4 * w ≤ n * w
rows_in n w r h = rw add-mul at (mul-le-mul_right w h)
