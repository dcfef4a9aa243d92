-- A run of predictions on whole numbers is exact. Each entry is a sum of products, which `numbers` shows exact once over the length; a run goes call by call.
-- Assumes nothing.
use mathlib.Core.Path.{◌≡◌, sym, ap, ◌∙◌, subst}
use mathlib.Core.List.{List}
use Prim.Native.Nat.{ℕ, zero, suc, ◌+◌, ◌*◌, ◌≤◌, ◌<◌}
use native.Mathlib.Nat.{zero-add, suc-mul}
use native.Mathlib.Decide.{dec_lt}
use native.Mathlib.Omega.{arith}
use lib.IntN.{ℤ, pos, nat_abs, ◌+ℤ◌}
use lib.ListN.{length, get_or, get_or-eq_default}
use lib.Ieee.{Float, Format, nan, add}
use Rattle.numbers.specs.Sums.{sum_of_first, products}
use Rattle.numbers.specs.Whole.{Whole, sumℤ, abs_sum, productsℤ}
use Rattle.numbers.proofs.Exact.{add_whole, dot_from_zero, dot_from_first, abs_add, sum_abs}
use Rattle.grids.specs.Grid.{run, grid, cell, Same}
use Rattle.grids.proofs.Grids.{run-cell, grid-cell}
use Rattle.entries.specs.Entries.{times_t, numbers}
use Rattle.filters.specs.Prediction.{predicted_x, temp_p, predicted_p}
use Rattle.promises.specs.Formulas.{Column, Matrix, terms_a_p, terms_t_at, a_x, a_p, a_p_at_q, Spreading, exact_x, exact_p}
use Rattle.promises.specs.Runs.{State, HoldsColumn, HoldsMatrix, Run, end, predict, predict_x, predict_p, left}
use Rattle.promises.specs.WholeNumbers.{limit, SmallX, SmallP, AllSmallX, AllSmallP, WholeX, WholeP}

-- ---- a whole number lies within its buffer, since what a read past the end gives is none
within : (l : List Float) (i : ℕ) (z : ℤ) → Whole (get_or l i nan) z → i < length l
within l i z w = elim (dec_lt i (length l)) [
  | yes h ↦ h
  | no h ↦ absurd (subst (λ (x : Float). Whole x z) (get_or-eq_default l nan {n = i} (omega arith)) w).value
]

column_fits : (n : ℕ) (l : List Float) (v : Column) → 1 ≤ n → HoldsColumn n l v → n ≤ length l
column_fits zero l v one h = elim one [ ]
column_fits (suc m) l v one h = within l m (v m) (h m (omega arith))

matrix_fits : (n : ℕ) (l : List Float) (m : Matrix) → 1 ≤ n → HoldsMatrix n l m → n * n ≤ length l
matrix_fits zero l v one h = elim one [ ]
matrix_fits (suc m) l v one h =
    let k : m * suc m + m < length l = within l (m * suc m + m) (v m m) (h m m (omega arith) (omega arith)) in
    omega (arith, suc-mul m (suc m))

-- ---- one prediction
front-cell : (n : ℕ) (g : ℕ → Float) (l : List Float) (r : ℕ) → r < n → n ≤ length l → get_or (run 0 n g l) r nan ≡ g r
front-cell n g l r lt fits = ap (λ (i : ℕ). get_or (run 0 n g l) i nan) (sym (zero-add r)) ∙ run-cell 0 n g l r lt (omega arith)

-- a sum from the first product
first_exact : (f : Format) (n : ℕ) (u v : ℕ → Float) (a b : ℕ → ℤ) → 1 ≤ n → ((k : ℕ) → k < n → Whole (u k) (a k)) → ((k : ℕ) → k < n → Whole (v k) (b k))
    → abs_sum (productsℤ a b) n ≤ limit f → Whole (sum_of_first f (products f u v) n) (sumℤ (pos 0) (productsℤ a b) n)
first_exact f zero u v a b one hu hv small = elim one [ ]
first_exact f (suc m) u v a b one hu hv small = dot_from_first f u v a b m hu hv small

-- a sum, and one number more
sum_and : (f : Format) (x y : Float) (g : ℕ → ℤ) (n : ℕ) (q : ℤ) → Whole x (sumℤ (pos 0) g n) → Whole y q → abs_sum g n + nat_abs q ≤ limit f → Whole (add f x y) (sumℤ (pos 0) g n +ℤ q)
sum_and f x y g n q hx hy small = add_whole f x y (sumℤ (pos 0) g n) q hx hy (omega (arith, abs_add (sumℤ (pos 0) g n) q, sum_abs (pos 0) g n))

module _ (f : Format) (n : ℕ) (A : List Float) (a : Matrix) (hA : HoldsMatrix n A a) where
  x_exact : (x : List Float) (v : Column) → HoldsColumn n x v → SmallX f n a v → HoldsColumn n (run 0 n (predicted_x f n A x) x) (a_x n a v)
  x_exact x v hx small r lt =
      rw (front-cell n (predicted_x f n A x) x r lt (column_fits n x v (omega arith) hx))
      (first_exact f n (cell n A r) (numbers x) (a r) v (omega arith) (λ k. hA r k lt) hx (small r lt))

  temp_exact : (P : List Float) (p : Matrix) → HoldsMatrix n P p → ((r c : ℕ) → r < n → c < n → abs_sum (terms_a_p a p r c) n ≤ limit f)
      → (r c : ℕ) → r < n → c < n → Whole (temp_p f n A P r c) (a_p n a p r c)
  temp_exact P p hP small r c lr lc =
      dot_from_zero f (cell n A r) (λ k. cell n P k c) (a r) (λ k. p k c) n (λ k. hA r k lr) (λ k lk. hP k c lk lc) (small r c lr lc)

  p_exact : (P Q : List Float) (p q : Matrix) → HoldsMatrix n P p → HoldsMatrix n Q q
      → SmallP f n a p q → HoldsMatrix n (grid n n (predicted_p f n A P Q) P) (a_p_at_q n a p q)
  p_exact P Q p q hP hQ small r c lr lc =
      rw (grid-cell n n (predicted_p f n A P Q) P r c lr lc (matrix_fits n P p (omega arith) hP))
      (sum_and f (times_t f n (temp_p f n A P) (cell n A) r c) (cell n Q r c) (terms_t_at (a_p n a p) a r c) n (q r c)
      (dot_from_zero f (temp_p f n A P r) (cell n A c) (a_p n a p r) (a c) n (λ k lk. temp_exact P p hP small.of_a_p r k lr lk) (λ k. hA c k lc) (omega (arith, small.of_a_p_at_q r c lr lc)))
      (hQ r c lr lc)
      (small.of_a_p_at_q r c lr lc))

-- ---- a run

-- the same numbers in front are the same whole numbers
pub same_column : (n : ℕ) (l m : List Float) (v : Column) → ((r : ℕ) → r < n → numbers m r ≡ numbers l r) → HoldsColumn n l v → HoldsColumn n m v
same_column n l m v same h r lt = rw (same r lt) (h r lt)

pub same_matrix : (n : ℕ) (l m : List Float) (p : Matrix) → Same n (cell n m) (cell n l) → HoldsMatrix n l p → HoldsMatrix n m p
same_matrix n l m p same h r c lr lc = rw (same r c lr lc) (h r c lr lc)

x_run_exact : (f : Format) (n : ℕ) (ms : List Matrix) (ss : List Spreading) (s e : State) → Run f n ms ss s e
    → (v : Column) → HoldsColumn n s.x v → AllSmallX f n ms v → HoldsColumn n e.x (exact_x n ms v)
unfolding exact_x
x_run_exact f n ms ss s e end v h small = h
x_run_exact f n ms ss s e (predict {A = A} {x' = x'} {a = a} {ms = later} {ss = after} call d hA hQ rest) v h small =
    let hx : HoldsColumn n x' (a_x n a v) = rw (call.x_after, d) (x_exact f n A a hA s.x v h small.0) in
    x_run_exact f n later after _ e rest (a_x n a v) hx small.1
x_run_exact f n ms ss s e (predict_x {A = A} {x' = x'} {a = a} {ms = later} call d hA rest) v h small =
    let hx : HoldsColumn n x' (a_x n a v) = rw (call.x_after, d) (x_exact f n A a hA s.x v h small.0) in
    x_run_exact f n later ss _ e rest (a_x n a v) hx small.1
x_run_exact f n ms ss s e (predict_p {ss = after} call d hA hQ rest) v h small = x_run_exact f n ms after _ e rest v h small
x_run_exact f n ms ss s e (left {t = t} same rest) v h small = x_run_exact f n ms ss t e rest v (same_column n s.x t.x v same.x h) small

p_run_exact : (f : Format) (n : ℕ) (ms : List Matrix) (ss : List Spreading) (s e : State) → Run f n ms ss s e
    → (p : Matrix) → HoldsMatrix n s.P p → AllSmallP f n ss p → HoldsMatrix n e.P (exact_p n ss p)
unfolding exact_p
p_run_exact f n ms ss s e end p h small = h
p_run_exact f n ms ss s e (predict {A = A} {Q = Q} {P' = P'} {a = a} {q = q} {ms = later} {ss = after} call d hA hQ rest) p h small =
    let hP : HoldsMatrix n P' (a_p_at_q n a p q) = rw (call.p_after, d) (p_exact f n A a hA s.P Q p q h hQ small.0) in
    p_run_exact f n later after _ e rest (a_p_at_q n a p q) hP small.1
p_run_exact f n ms ss s e (predict_x {ms = later} call d hA rest) p h small = p_run_exact f n later ss _ e rest p h small
p_run_exact f n ms ss s e (predict_p {A = A} {Q = Q} {P' = P'} {a = a} {q = q} {ss = after} call d hA hQ rest) p h small =
    let hP : HoldsMatrix n P' (a_p_at_q n a p q) = rw (call.p_after, d) (p_exact f n A a hA s.P Q p q h hQ small.0) in
    p_run_exact f n ms after _ e rest (a_p_at_q n a p q) hP small.1
p_run_exact f n ms ss s e (left {t = t} same rest) p h small = p_run_exact f n ms ss t e rest p (same_matrix n s.P t.P p same.P h) small

pub exact_x_lem : (f : Format) (n : ℕ) (ms : List Matrix) (ss : List Spreading) (s e : State) (v : Column) → WholeX f n ms ss s e v → HoldsColumn n e.x (exact_x n ms v)
exact_x_lem f n ms ss s e v r = x_run_exact f n ms ss s e r.run v r.start r.small

pub exact_p_lem : (f : Format) (n : ℕ) (ms : List Matrix) (ss : List Spreading) (s e : State) (p : Matrix) → WholeP f n ms ss s e p → HoldsMatrix n e.P (exact_p n ss p)
exact_p_lem f n ms ss s e p r = p_run_exact f n ms ss s e r.run p r.start r.small
