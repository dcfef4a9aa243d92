-- Floats that are whole numbers, and sums of whole numbers without rounding (R23). Definitions only.
use Rattle.std.specs.Prelude.{◌≡◌, Bool, cond, ℕ, zero, suc, ◌+◌, ℤ, pos, neg_ℤ, ◌+ℤ◌, ◌*ℤ◌, nat_abs, Float}
use Rattle.std.specs.Float.Ieee.Exact.{HasValue}

-- c, negative where s is true
abbrev pub signed : Bool → ℕ → ℤ
signed s c = cond s (neg_ℤ (pos c)) (pos c)

-- x is finite and is the number z: its size is a whole number, and with x's sign that is z. Both zeros are the number 0.
pub record Whole (x : Float) (z : ℤ) : Type 0 where
  pub sign : Bool
  pub size : ℕ
  pub value : HasValue x sign size 1
  pub same : signed sign size ≡ z

-- start + w 0 + .. + w (n − 1)
unfoldable pub sumℤ : ℤ → (ℕ → ℤ) → ℕ → ℤ
sumℤ start w zero = start
sumℤ start w (suc n) = sumℤ start w n +ℤ w n

-- |w 0| + .. + |w (n − 1)|: the sum of the absolute terms
unfoldable pub abs_sum : (ℕ → ℤ) → ℕ → ℕ
abs_sum w zero = 0
abs_sum w (suc n) = abs_sum w n + nat_abs (w n)

-- the terms of a sum of products
abbrev pub productsℤ : (ℕ → ℤ) → (ℕ → ℤ) → ℕ → ℤ
productsℤ a b k = a k *ℤ b k
