-- The two ways in which a right operand lies in its buffer: row-major, as itself or as its transpose. Assumes nothing.
use mathlib.Core.Path.{◌≡◌, refl, ap, ◌∙◌}
use mathlib.Core.List.{List}
use Prim.Native.Nat.{ℕ, ◌+◌, ◌*◌, ◌<◌, ◌≤◌}
use native.Mathlib.Omega.{arith}
use lib.ListN.{length, get_or}
use lib.Ieee.{Float, Format, nan}
use Rattle.grids.specs.Grid.{cell, grid, SameEntries}
use Rattle.grids.proofs.Grids.{grid_ext, row_in}
use Rattle.entries.specs.Entries.{times, product, product_t}
use Rattle.entries.proofs.Written.{times_alike}
use Rattle.thin_products.specs.Thin.{strided}

at : (b : List Float) {p q : ℕ} → p ≡ q → get_or b p nan ≡ get_or b q nan
at b e = ap (λ (i : ℕ). get_or b i nan) e

-- a·b, where b holds the operand
pub as_itself :
    (f : Format) (rows inner cols : ℕ) (a b c : List Float) {c' : List Float} → c' ≡ grid rows cols (times f inner (cell inner a) (strided cols 1 b)) c
    → c' ≡ grid rows cols (product f inner cols a b) c
as_itself f rows inner cols a b c q =
    q
    ∙ grid_ext rows cols (times f inner (cell inner a) (strided cols 1 b)) (product f inner cols a b) c
    (times_alike f rows inner cols (cell inner a) (cell inner a) (strided cols 1 b) (cell cols b) (λ r k hr hk. refl) (λ k j hk hj. at b (omega arith)))

-- a·bᵀ, where b holds the operand's transpose: entry by entry, and the matrix
pub transpose_alike : (f : Format) (rows inner cols : ℕ) (a b : List Float) → SameEntries rows cols (times f inner (cell inner a) (strided 1 inner b)) (product_t f inner a b)
transpose_alike f rows inner cols a b =
    times_alike f rows inner cols (cell inner a) (cell inner a) (strided 1 inner b) (λ k j. cell inner b j k) (λ r k hr hk. refl) (λ k j hk hj. at b (omega arith))

pub as_transpose :
    (f : Format) (rows inner cols : ℕ) (a b c : List Float) {c' : List Float} → c' ≡ grid rows cols (times f inner (cell inner a) (strided 1 inner b)) c
    → c' ≡ grid rows cols (product_t f inner a b) c
as_transpose f rows inner cols a b c q = q ∙ grid_ext rows cols (times f inner (cell inner a) (strided 1 inner b)) (product_t f inner a b) c (transpose_alike f rows inner cols a b)

-- each number lies within the buffer
pub itself_in : (inner cols : ℕ) (b : List Float) → inner * cols ≤ length b → (k j : ℕ) → k < inner → j < cols → k * cols + j * 1 < length b
itself_in inner cols b fits k j hk hj = omega (arith, row_in inner cols k hk)

pub transpose_in : (inner cols : ℕ) (b : List Float) → cols * inner ≤ length b → (k j : ℕ) → k < inner → j < cols → k * 1 + j * inner < length b
transpose_in inner cols b fits k j hk hj = omega (arith, row_in cols inner j hj)
