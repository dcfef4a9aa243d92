-- The inverse of a matrix out of its lower factor L, in two passes over the entries e of the destination (R16). Definitions only.
use Rattle.std.specs.Prelude.{◌≡◌, cond, ◌&&◌, ℕ, zero, suc, ◌+◌, ◌-◌, ◌≤◌, ◌<◌, eqb, leb, ltb, Float}
use Rattle.std.specs.Float.{Format}
use Rattle.std.specs.Float.Ieee.{add, mul, neg}
use Rattle.numbers.specs.Reciprocal.{one, recip_of}
use Rattle.numbers.specs.Sums.{plus0, sum_of_first}

-- s plus the sum of the first n terms, which is formed by itself first and begins with its first term; s where there are none
unfoldable pub plus_sum : Format → Float → (ℕ → Float) → ℕ → Float
plus_sum f s t zero = s
plus_sum f s t (suc n) = add f s (sum_of_first f t (suc n))

-- what the first pass begins with: 1 on the diagonal and +0 off it
abbrev pub unit_at : ℕ → ℕ → Float
unit_at i j = cond (eqb i j) one plus0

-- ---- the first pass, column after column from the left

-- entry (j, i): the terms run over the columns from j to the one before i
abbrev pub solved_at : Format → (ℕ → ℕ → Float) → (ℕ → ℕ → Float) → ℕ → ℕ → Float
solved_at f L e i j = mul f (plus_sum f (unit_at i j) (λ k. mul f (neg (L i (j + k))) (e j (j + k))) (i - j)) (recip_of f (L i i))

abbrev pub solve_column : Format → (ℕ → ℕ → Float) → (ℕ → ℕ → Float) → ℕ → ℕ → ℕ → Float
solve_column f L e i r c = cond (eqb c i && leb r i) (solved_at f L e i r) (e r c)

-- columns 0 to i − 1
unfoldable pub solved : Format → (ℕ → ℕ → Float) → (ℕ → ℕ → Float) → ℕ → ℕ → ℕ → Float
solved f L e zero = e
solved f L e (suc i) = solve_column f L (solved f L e i) i

-- ---- the second pass, from the last column back

-- entries (j, i) and (i, j), from what the first pass left there: the terms run over the columns after i
abbrev pub back_at : Format → ℕ → (ℕ → ℕ → Float) → (ℕ → ℕ → Float) → ℕ → ℕ → Float
back_at f n L e i j = mul f (plus_sum f (e j i) (λ k. mul f (neg (L (i + 1 + k) i)) (e j (i + 1 + k))) (n - (i + 1))) (recip_of f (L i i))

-- the cells (j, i) and (i, j) anew, for j = 0 to m − 1: g j
abbrev pub cross : (ℕ → ℕ → Float) → ℕ → (ℕ → Float) → ℕ → ℕ → ℕ → Float
cross e i g m r c = cond (eqb c i && ltb r m) (g r) (cond (eqb r i && ltb c m) (g c) (e r c))

abbrev pub back_column : Format → ℕ → (ℕ → ℕ → Float) → (ℕ → ℕ → Float) → ℕ → ℕ → ℕ → Float
back_column f n L e i = cross e i (back_at f n L e i) (i + 1)

-- i = n − 1 downward, d of them
unfoldable pub back : Format → ℕ → (ℕ → ℕ → Float) → (ℕ → ℕ → Float) → ℕ → ℕ → ℕ → Float
back f n L e zero = e
back f n L e (suc d) = back_column f n L (back f n L e d) (n - suc d)

-- ---- both, over what the destination held
abbrev pub inverse : Format → ℕ → (ℕ → ℕ → Float) → (ℕ → ℕ → Float) → ℕ → ℕ → Float
inverse f n L e = back f n L (solved f L e n) n

-- the two have the same diagonal and lower triangle
abbrev pub SameLower : ℕ → (ℕ → ℕ → Float) → (ℕ → ℕ → Float) → Type 0
SameLower n L M = (r c : ℕ) → c ≤ r → r < n → L r c ≡ M r c
