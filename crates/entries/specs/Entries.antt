-- The entries of products, step by step (R12). Definitions only.
use Rattle.std.specs.Prelude.{◌≡◌, ℕ, ◌<◌, List, get_or, Float}
use Rattle.std.specs.Float.{Format, nan}
use Rattle.numbers.specs.Sums.{plus0, sum_from, sum_of_first, products}
use Rattle.grids.specs.Grid.{cell}

-- ---- on entries, (r, c) ↦ a r c, and on the numbers of a vector, k ↦ x k

-- Entry (r, j) of a·b, of so many inner terms: they are added to +0, in the order of the inner index.
abbrev pub times : Format → ℕ → (ℕ → ℕ → Float) → (ℕ → ℕ → Float) → ℕ → ℕ → Float
times f inner a b r j = sum_from f plus0 (products f (a r) (λ k. b k j)) inner

-- entry (r, j) of a·bᵀ, by the same steps
abbrev pub times_t : Format → ℕ → (ℕ → ℕ → Float) → (ℕ → ℕ → Float) → ℕ → ℕ → Float
times_t f inner a b r j = sum_from f plus0 (products f (a r) (b j)) inner

-- Entry r of a·x by the row-vector products: the first product is the start.
abbrev pub times_x : Format → ℕ → (ℕ → ℕ → Float) → (ℕ → Float) → ℕ → Float
times_x f inner a x r = sum_of_first f (products f (a r) x) inner

-- ---- on lent buffers

-- the numbers of a vector
abbrev pub numbers : List Float → ℕ → Float
numbers x k = get_or x k nan

-- a with `inner` columns and b with `cols`
abbrev pub product : Format → ℕ → ℕ → List Float → List Float → ℕ → ℕ → Float
product f inner cols a b = times f inner (cell inner a) (cell cols b)

-- a and b with `inner` columns
abbrev pub product_t : Format → ℕ → List Float → List Float → ℕ → ℕ → Float
product_t f inner a b = times_t f inner (cell inner a) (cell inner b)

-- a with `inner` columns
abbrev pub row_product : Format → ℕ → List Float → List Float → ℕ → Float
row_product f inner a x = times_x f inner (cell inner a) (numbers x)

-- t holds the transpose of the inner by cols matrix that b holds
abbrev pub Transposed : ℕ → ℕ → List Float → List Float → Type 0
Transposed inner cols b t = (k j : ℕ) → k < inner → j < cols → cell inner t j k ≡ cell cols b k j
