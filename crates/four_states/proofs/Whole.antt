-- The steps on values that are made of entries are the general definitions at four states: both compute to the same sums. Then what the stores leave. Assumes nothing.
use mathlib.Core.Path.{◌≡◌, refl, ap, ap₂, ◌∙◌}
use mathlib.Core.List.{List}
use Prim.Native.Nat.{ℕ}
use lib.Ieee.{Float, binary32, add}
use Rattle.side_by_side.specs.declared.Four.{Four}
use Rattle.side_by_side.specs.declared.Sixteen.{Sixteen}
use Rattle.numbers.specs.Sums.{sum_from}
use Rattle.grids.specs.Grid.{run, grid}
use Rattle.entries.specs.Entries.{times, times_t, times_x}
use Rattle.four_values.specs.Values.{four, large, in_four, in_large}
use Rattle.four_values.specs.Products.{transposed}
use Rattle.four_values.proofs.Values.{four_put, large_put}
use Rattle.four_states.specs.Steps.{all_on, all_times, all_plus}

-- ---- the steps

on_of : (A : ℕ → ℕ → Float) (x : ℕ → Float) → all_on (large A) (four x) ≡ four (times_x binary32 4 A x)
unfolding all_on sum_from
on_of A x = refl

times_of : (A P : ℕ → ℕ → Float) → all_times (large A) (large P) ≡ large (times binary32 4 A P)
unfolding all_times sum_from
times_of A P = refl

-- times the transpose
across_of : (T A : ℕ → ℕ → Float) → all_times (large T) (transposed (large A)) ≡ large (times_t binary32 4 T A)
unfolding all_times transposed sum_from
across_of T A = refl

plus_of : (T Q : ℕ → ℕ → Float) → all_plus (large T) (large Q) ≡ large (λ r c. add binary32 (T r c) (Q r c))
unfolding all_plus
plus_of T Q = refl

-- ---- what the stores leave

module _ (A : ℕ → ℕ → Float) {a : Sixteen} (a-is : a ≡ large A) where
  -- x and predicted_x
  pub x_left : (x : ℕ → Float) {u v : Four} → u ≡ four x → v ≡ all_on a u → (l : List Float) {e : List Float} → e ≡ run 0 4 (in_four v) l → e ≡ run 0 4 (times_x binary32 4 A x) l
  x_left x u-is v-is l e-is = e-is ∙ ap (λ (w : Four). run 0 4 (in_four w) l) (v-is ∙ ap₂ all_on a-is u-is ∙ on_of A x) ∙ four_put _ l

  module _ (P : ℕ → ℕ → Float) {p t : Sixteen} (p-is : p ≡ large P) (t_is : t ≡ all_times a p) where
    made : t ≡ large (times binary32 4 A P)
    made = t_is ∙ ap₂ all_times a-is p-is ∙ times_of A P

    -- temp_P
    pub temp_left : (l : List Float) {e : List Float} → e ≡ grid 4 4 (in_large t) l → e ≡ grid 4 4 (times binary32 4 A P) l
    temp_left l e-is = e-is ∙ ap (λ (w : Sixteen). grid 4 4 (in_large w) l) made ∙ large_put _ l

    -- P, from the turned A in b and Q in q
    pub p_left :
        (Q : ℕ → ℕ → Float) {b q n : Sixteen} → b ≡ transposed a → q ≡ large Q → n ≡ all_plus (all_times t b) q
        → (l : List Float) {e : List Float} → e ≡ grid 4 4 (in_large n) l
        → e ≡ grid 4 4 (λ r c. add binary32 (times_t binary32 4 (times binary32 4 A P) A r c) (Q r c)) l
    p_left Q b-is q-is n_is l e-is =
        let across = ap₂ all_times made (b-is ∙ ap transposed a-is) ∙ across_of (times binary32 4 A P) A in
        e-is ∙ ap (λ (w : Sixteen). grid 4 4 (in_large w) l) (n_is ∙ ap₂ all_plus across q-is ∙ plus_of (times_t binary32 4 (times binary32 4 A P) A) Q) ∙ large_put _ l
