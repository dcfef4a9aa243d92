-- Products and sums over a buffer that was just written are those over the entries that it was written with: they read cells within its matrix alone. Assumes nothing.
use mathlib.Core.Path.{◌≡◌, refl, sym, ap, ap₂, ◌∙◌}
use mathlib.Core.List.{List}
use Prim.Native.Nat.{ℕ, zero, suc, ◌*◌, ◌≤◌, ◌<◌}
use native.Mathlib.Nat.{zero-add}
use native.Mathlib.Omega.{arith}
use lib.ListN.{length, get_or}
use lib.Ieee.{Float, Format, nan, mul}
use Rattle.numbers.specs.Sums.{plus0, sum_from, sum_of_first, products}
use Rattle.numbers.proofs.Sums.{sum_same}
use Rattle.grids.specs.Grid.{cell, run, grid, SameEntries}
use Rattle.grids.proofs.Grids.{run-cell, grid-cell, grid_flat}
use Rattle.entries.specs.Entries.{times, times_t, times_x}

-- A buffer that a matrix was written to has its entries.
pub written : (rows cols : ℕ) (e : ℕ → ℕ → Float) (l z : List Float) → rows * cols ≤ length l → z ≡ grid rows cols e l → SameEntries rows cols (cell cols z) e
written rows cols e l z fits q r c hr hc = ap (λ (w : List Float). cell cols w r c) q ∙ grid-cell rows cols e l r c hr hc fits

-- A buffer that a vector was written to has its numbers.
pub front-cell : (n : ℕ) (g : ℕ → Float) (l z : List Float) (i : ℕ) → i < n → n ≤ length l → z ≡ run 0 n g l → get_or z i nan ≡ g i
front-cell n g l z i h fits q =
    ap (λ (w : List Float). get_or w i nan) q ∙ rw zero-add at (run-cell 0 n g l i h (omega arith))

-- An operation on all cells in a row is one on the entries.
pub entrywise : (n : ℕ) (op : Float → Float → Float) (a b l : List Float) → run 0 (n * n) (λ i. op (get_or a i nan) (get_or b i nan)) l ≡ grid n n (λ r c. op (cell n a r c) (cell n b r c)) l
entrywise n op a b l = sym (grid_flat n n (λ i. op (get_or a i nan) (get_or b i nan)) l)

-- Sums of products with the same factors are equal.
sum_alike : (f : Format) (x y u v : ℕ → Float) (n : ℕ) → ((k : ℕ) → k < n → x k ≡ u k) → ((k : ℕ) → k < n → y k ≡ v k) → sum_from f plus0 (products f x y) n ≡ sum_from f plus0 (products f u v) n
sum_alike f x y u v n p q = sum_same f plus0 (products f x y) (products f u v) n (λ k h. ap₂ (mul f) (p k h) (q k h))

-- The same for sums that start with their first term.
pub first_alike : (f : Format) (x y u v : ℕ → Float) (n : ℕ) → ((k : ℕ) → k < n → x k ≡ u k) → ((k : ℕ) → k < n → y k ≡ v k) → sum_of_first f (products f x y) n ≡ sum_of_first f (products f u v) n
first_alike f x y u v zero p q = refl
first_alike f x y u v (suc n) p q =
    ap (λ (s : Float). sum_from f s (λ k. products f x y (suc k)) n) (ap₂ (mul f) (p 0 (omega arith)) (q 0 (omega arith)))
    ∙ sum_same f (products f u v 0) (λ k. products f x y (suc k)) (λ k. products f u v (suc k)) n (λ k h. ap₂ (mul f) (p (suc k) (omega arith)) (q (suc k) (omega arith)))

-- a·b goes by the entries of a and b.
pub times_alike :
    (f : Format) (rows inner cols : ℕ) (a a' b b' : ℕ → ℕ → Float) → SameEntries rows inner a a' → SameEntries inner cols b b' → SameEntries rows cols (times f inner a b) (times f inner a' b')
times_alike f rows inner cols a a' b b' p q r c hr hc = sum_alike f (a r) (λ k. b k c) (a' r) (λ k. b' k c) inner (λ k h. p r k hr h) (λ k h. q k c h hc)

-- a·bᵀ does.
pub times_t_alike :
    (f : Format) (rows inner cols : ℕ) (a a' b b' : ℕ → ℕ → Float) → SameEntries rows inner a a' → SameEntries cols inner b b' → SameEntries rows cols (times_t f inner a b) (times_t f inner a' b')
times_t_alike f rows inner cols a a' b b' p q r c hr hc = sum_alike f (a r) (b c) (a' r) (b' c) inner (λ k h. p r k hr h) (λ k h. q c k hc h)

-- So does a·x.
pub times_x_alike : (f : Format) (rows inner : ℕ) (a a' : ℕ → ℕ → Float) (x : ℕ → Float) (r : ℕ) → r < rows → SameEntries rows inner a a' → times_x f inner a x r ≡ times_x f inner a' x r
times_x_alike f rows inner a a' x r hr p = first_alike f (a r) x (a' r) x inner (λ k h. p r k hr h) (λ k h. refl)
