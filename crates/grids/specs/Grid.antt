-- A lent buffer before and after a matrix was written into it, row-major. Definitions only.
use Rattle.std.specs.Prelude.{◌≡◌, ℕ, zero, suc, ◌+◌, ◌*◌, ◌<◌, List, cond, ◌&&◌, eqb, get_or, set, Float}
use Rattle.std.specs.Float.{nan}

-- entry (r, j) of the matrix of so many columns that the buffer l begins with (R2)
abbrev pub cell : ℕ → List Float → ℕ → ℕ → Float
cell cols l r j = get_or l (r * cols + j) nan

-- the buffer l with n cells anew, from `at` upward: cell at + j is g j
unfoldable pub run : ℕ → ℕ → (ℕ → Float) → List Float → List Float
run at zero g l = l
run at (suc n) g l = set (run at n g l) (at + n) (g n)

-- The buffer l with a matrix of so many rows and columns in front: cell r·cols + j is e r j. What lies past rows·cols is l's.
unfoldable pub grid : ℕ → ℕ → (ℕ → ℕ → Float) → List Float → List Float
unfolding run
grid zero cols e l = l
grid (suc r) cols e l = run (r * cols) cols (e r) (grid r cols e l)

-- the entries e, with v at (r, j)
abbrev pub with_cell : (ℕ → ℕ → Float) → ℕ → ℕ → Float → ℕ → ℕ → Float
with_cell e r j v r' j' = cond (eqb r' r && eqb j' j) v (e r' j')

-- d on the diagonal and o r c elsewhere
abbrev pub diagonal : Float → (ℕ → ℕ → Float) → ℕ → ℕ → Float
diagonal d o r c = cond (eqb r c) d (o r c)

-- the two have the same entries within rows by cols
abbrev pub SameEntries : ℕ → ℕ → (ℕ → ℕ → Float) → (ℕ → ℕ → Float) → Type 0
SameEntries rows cols e g = (r c : ℕ) → r < rows → c < cols → e r c ≡ g r c

-- within n by n
abbrev pub Same : ℕ → (ℕ → ℕ → Float) → (ℕ → ℕ → Float) → Type 0
Same n = SameEntries n n
