-- The decomposition of a matrix of entries e, (r, c) ↦ e r c, into its lower factor (R15). Definitions only.
use Rattle.std.specs.Prelude.{◌≡◌, Bool, true, false, cond, ◌&&◌, ℕ, zero, suc, ◌<◌, ◌≤◌, eqb, ltb, Float}
use Rattle.std.specs.Float.{Format}
use Rattle.std.specs.Float.Ieee.{sub, mul}
use Rattle.numbers.specs.Reciprocal.{recip_of}
use Rattle.numbers.specs.Root.{sqrt_of}
use Rattle.numbers.specs.Sums.{plus0}
use Rattle.grids.specs.Grid.{with_cell}
use Rattle.factors.specs.Pivots.{pivot_taken}

-- s less x 0·y 0, x 1·y 1, .., n of them, in this order: each product is rounded, and so is each difference
unfoldable pub less_dot : Format → Float → (ℕ → Float) → (ℕ → Float) → ℕ → Float
less_dot f s x y zero = s
less_dot f s x y (suc k) = sub f (less_dot f s x y k) (mul f (x k) (y k))

-- what remains of entry (i, j) once the products of the columns left of i are taken off
abbrev pub remains : Format → (ℕ → ℕ → Float) → ℕ → ℕ → Float
remains f e i j = less_dot f (e i j) (e i) (e j) i

-- column i below the diagonal: what remains, times d
abbrev pub below : Format → (ℕ → ℕ → Float) → ℕ → Float → ℕ → ℕ → Float
below f e i d r c = cond (eqb c i && ltb i r) (mul f (remains f e i r) d) (e r c)

-- column i from the diagonal down: the root on it, and its reciprocal as d for those below
abbrev pub column : Format → (ℕ → ℕ → Float) → ℕ → Float → ℕ → ℕ → Float
column f e i root = below f (with_cell e i i root) i (recip_of f root)

-- the entries with columns 0 to i − 1 done, whether or not their pivots are taken
unfoldable pub factor : Format → (ℕ → ℕ → Float) → ℕ → ℕ → ℕ → Float
factor f e zero = e
factor f e (suc i) = column f (factor f e i) i (sqrt_of f (remains f (factor f e i) i i))

-- the pivot computed at i
abbrev pub pivot_at : Format → (ℕ → ℕ → Float) → ℕ → Float
pivot_at f e i = remains f (factor f e i) i i

-- d at the pivot of column i: it is still the column before's, and +0 in the first
unfoldable pub last_recip : Format → (ℕ → ℕ → Float) → ℕ → Float
last_recip f e zero = plus0
last_recip f e (suc i) = recip_of f (sqrt_of f (pivot_at f e i))

-- the first index below n at which p is false, and n where there is none
unfoldable pub first_not : (ℕ → Bool) → ℕ → ℕ
first_not p zero = zero
first_not p (suc n) = cond (p zero) (suc (first_not (λ k. p (suc k)) n)) zero

-- the index of the first pivot that is refused, and n where every one is taken
abbrev pub reached : Format → ℕ → (ℕ → ℕ → Float) → ℕ
reached f n e = first_not (λ i. pivot_taken (pivot_at f e i)) n

-- what a refusal at i leaves: the columns left of i are done, the pivot's cell holds it times d, and no other cell is touched
abbrev pub refused_at : Format → (ℕ → ℕ → Float) → ℕ → ℕ → ℕ → Float
refused_at f e i = with_cell (factor f e i) i i (mul f (pivot_at f e i) (last_recip f e i))

-- +0 above the diagonal
abbrev pub lower : (ℕ → ℕ → Float) → ℕ → ℕ → Float
lower e r c = cond (ltb r c) plus0 (e r c)

-- the entries afterwards, accepted or refused
abbrev pub decomposed : Format → ℕ → (ℕ → ℕ → Float) → ℕ → ℕ → Float
decomposed f n e = cond (ltb (reached f n e) n) (refused_at f e (reached f n e)) (lower (factor f e n))

-- i is the index of the first pivot that is not taken
pub record FirstRefused (f : Format) (n : ℕ) (e : ℕ → ℕ → Float) (i : ℕ) : Type 0 where
  pub within : i < n
  pub before : (k : ℕ) → k < i → pivot_taken (pivot_at f e k) ≡ true
  pub here : pivot_taken (pivot_at f e i) ≡ false

-- the two have the same diagonal and upper triangle
abbrev pub SameUpper : ℕ → (ℕ → ℕ → Float) → (ℕ → ℕ → Float) → Type 0
SameUpper n e g = (r c : ℕ) → r ≤ c → c < n → e r c ≡ g r c
