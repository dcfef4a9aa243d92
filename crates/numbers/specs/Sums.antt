-- Sums of floats in their order, each step rounded once to the format (R7). Definitions only.
use Rattle.std.specs.Prelude.{false, ℕ, zero, suc, pos, Float}
use Rattle.std.specs.Float.{fin, Format}
use Rattle.std.specs.Float.Ieee.{add, mul}

abbrev pub plus0 : Float
plus0 = fin false 0 (pos 0)

-- start + t 0 + t 1 + .. + t (n − 1), from the left
unfoldable pub sum_from : Format → Float → (ℕ → Float) → ℕ → Float
sum_from f start t zero = start
sum_from f start t (suc n) = add f (sum_from f start t n) (t n)

-- t 0 + t 1 + .. + t (n − 1), from the left and with no starting term: it starts with the first. (Nobody asks for no terms.)
abbrev pub sum_of_first : Format → (ℕ → Float) → ℕ → Float
sum_of_first f t zero = plus0
sum_of_first f t (suc n) = sum_from f (t 0) (λ k. t (suc k)) n

-- the terms of a sum of products, each product rounded
abbrev pub products : Format → (ℕ → Float) → (ℕ → Float) → ℕ → Float
products f x y k = mul f (x k) (y k)
