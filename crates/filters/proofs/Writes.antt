-- The writes of a prediction, one after the other, leave what the definitions say: a cell that was written is read back, and a matrix written over a matrix is the later one. Assumes nothing.
use mathlib.Core.Path.{◌≡◌, sym, ap, ◌∙◌}
use mathlib.Core.List.{List}
use Prim.Native.Nat.{ℕ, ◌*◌, ◌≤◌, ◌<◌}
use native.Mathlib.Nat.{zero-add}
use native.Mathlib.Omega.{arith}
use lib.ListN.{length, get_or}
use lib.Ieee.{Float, Format, nan, add, mul}
use Rattle.numbers.specs.Sums.{plus0, products}
use Rattle.numbers.proofs.Sums.{sum_same}
use Rattle.grids.specs.Grid.{cell, run, grid}
use Rattle.grids.proofs.Grids.{run_ext, run-cell, grid-cell, grid_ext}
use Rattle.grids.proofs.Over.{over_left}
use Rattle.entries.specs.Entries.{times_t}
use Rattle.filters.specs.Prediction.{temp_p, predicted_p}

-- predicted_x = g, copied to x
pub copied : (n : ℕ) (g : ℕ → Float) (x px px' x' : List Float) → n ≤ length px → px' ≡ run 0 n g px → x' ≡ run 0 n (λ i. get_or px' i nan) x → x' ≡ run 0 n g x
copied n g x px px' x' h p q = q ∙ run_ext 0 n _ _ x (λ i l. ap (λ (k : List Float). get_or k i nan) p ∙ ap (λ (j : ℕ). get_or (run 0 n g px) j nan) (sym (zero-add i)) ∙ run-cell 0 n g px i l (omega arith))

-- a product with a matrix t that was written in front of a buffer is the product with t
pub written_times : (f : Format) (n : ℕ) (t : ℕ → ℕ → Float) (l : List Float) (b : ℕ → ℕ → Float) (r c : ℕ) → r < n → n * n ≤ length l
    → times_t f n (cell n (grid n n t l)) b r c ≡ times_t f n t b r c
written_times f n t l b r c hr fits =
    sum_same f plus0 (products f (cell n (grid n n t l) r) (b c)) (products f (t r) (b c)) n
    (λ k h. ap (λ (x : Float). mul f x (b c k)) (grid-cell n n t l r k hr h fits))

-- temp_P = A·P, P = temp_P·Aᵀ, P = P + Q
pub p_written : (f : Format) (n : ℕ) (A P Q temp temp' P₁ P' : List Float) → n * n ≤ length P → n * n ≤ length temp
    → temp' ≡ grid n n (temp_p f n A P) temp
    → P₁ ≡ grid n n (times_t f n (cell n temp') (cell n A)) P
    → P' ≡ run 0 (n * n) (λ i. add f (get_or P₁ i nan) (get_or Q i nan)) P₁
    → P' ≡ grid n n (predicted_p f n A P Q) P
p_written f n A P Q temp temp' P₁ P' hP ht t p q =
    over_left (add f) n (times_t f n (temp_p f n A P) (cell n A)) P₁ P Q P' hP
    (p
    ∙ ap (λ (l : List Float). grid n n (times_t f n (cell n l) (cell n A)) P) t
    ∙ grid_ext n n _ _ P (λ r c hr hc. written_times f n (temp_p f n A P) temp (cell n A) r c hr ht))
    q
