-- What the numbers of three by three are of any entries: where they are taken every pivot is, and they are the decomposition's factor and the inverse from it; where they are not, some pivot is refused. By cases on the three tests; the rest computes. Assumes nothing.
use mathlib.Core.Path.{◌≡◌, refl, sym, ap, ◌∙◌}
use mathlib.Core.Bool.{Bool, true, false, cond}
use mathlib.Core.List.{List}
use Prim.Native.Nat.{ℕ, zero, suc, ◌<◌}
use native.Mathlib.Omega.{arith}
use lib.Dec.{ltb}
use Rattle.std.specs.Prelude.{Option, Some, None}
use lib.Ieee.{Float, Format}
use Rattle.numbers.specs.Sums.{sum_from}
use Rattle.grids.specs.Grid.{run, grid, SameEntries}
use Rattle.factors.specs.Pivots.{pivot_taken}
use Rattle.factors.specs.Decomposition.{less_dot, factor, first_not, pivot_at, refused_at, lower, reached, decomposed}
use Rattle.factors.specs.Inverse.{plus_sum, solved, back, inverse}
use Rattle.three_solved.specs.declared.Solved.{Solved}
use Rattle.three_solved.specs.Solved.{factor_in, inverse_in, solved_of}
use Rattle.three_solved.proofs.Ends.{all_of}

-- ---- by three tests

abbrev by_tests : Bool → Bool → Bool → Solved → Option Solved
by_tests t u w x = cond t (cond u (cond w (Some x) None) None) None

abbrev count : Bool → Bool → Bool → ℕ
count t u w = cond t (suc (cond u (suc (cond w 1 0)) 0)) 0

all_true : (t u w : Bool) (x v : Solved) → by_tests t u w x ≡ Some v → (t ≡ true) × (u ≡ true) × (w ≡ true)
all_true true true true x v h = (refl, refl, refl)
all_true true true false x v h = cc
all_true true false w x v h = cc
all_true false u w x v h = cc

some_false : (t u w : Bool) (x : Solved) → by_tests t u w x ≡ None → count t u w < 3
some_false true true true x h = absurd (cc)
some_false true true false x h = omega arith
some_false true false w x h = omega arith
some_false false u w x h = omega arith

module _ (f : Format) (e : ℕ → ℕ → Float) where
  abbrev made : Option Solved
  made = solved_of f (e 0 0) (e 0 1) (e 0 2) (e 1 1) (e 1 2) (e 2 2)

  -- the numbers where every pivot is taken
  abbrev whole : Solved
  whole = all_of f (e 0 0) (e 0 1) (e 0 2) (e 1 1) (e 1 2) (e 2 2)

  abbrev test : ℕ → Bool
  test i = pivot_taken (pivot_at f e i)

  -- the numbers and the count by the three tests
  made_by : made ≡ by_tests (test 0) (test 1) (test 2) whole
  unfolding solved_of factor less_dot
  made_by = refl

  counted : reached f 3 e ≡ count (test 0) (test 1) (test 2)
  unfolding first_not
  counted = refl

  tests : (v : Solved) → Some v ≡ made → (test 0 ≡ true) × (test 1 ≡ true) × (test 2 ≡ true)
  tests v q = all_true (test 0) (test 1) (test 2) whole v (sym (q ∙ made_by))

  pub taken_all : (v : Solved) → Some v ≡ made → reached f 3 e ≡ 3
  taken_all v q =
      let k = tests v q in
      rw (counted, k.0, k.1, k.2) refl

  pub refused_some : None ≡ made → reached f 3 e < 3
  refused_some q = rw counted (some_false (test 0) (test 1) (test 2) whole (sym (q ∙ made_by)))

  -- ---- where every pivot is taken

  whole_is : (v : Solved) → Some v ≡ made → v ≡ whole
  whole_is v q =
      let k = tests v q in
      let found : Some v ≡ Some whole = q ∙ made_by ∙ (rw (k.0, k.1, k.2) refl) in
      cc

  abbrev left : ℕ → ℕ → ℕ → Float
  left k = cond (ltb k 3) (refused_at f e k) (lower (factor f e 3))

  factor_whole : (b : List Float) → grid 3 3 (factor_in whole) b ≡ grid 3 3 (left 3) b
  unfolding run grid factor less_dot
  factor_whole b = refl

  pub factor_is : (v : Solved) → Some v ≡ made → (b : List Float) → grid 3 3 (factor_in v) b ≡ grid 3 3 (decomposed f 3 e) b
  factor_is v q b =
      ap (λ (x : Solved). grid 3 3 (factor_in x) b) (whole_is v q) ∙ factor_whole b ∙ sym (ap (λ (k : ℕ). grid 3 3 (left k) b) (taken_all v q))

  inverse_whole : (i : ℕ → ℕ → Float) → SameEntries 3 3 (inverse_in whole) (inverse f 3 (left 3) i)
  unfolding factor less_dot plus_sum solved back sum_from
  inverse_whole i zero zero hr hc = refl
  inverse_whole i zero (suc zero) hr hc = refl
  inverse_whole i zero (suc (suc zero)) hr hc = refl
  inverse_whole i (suc zero) zero hr hc = refl
  inverse_whole i (suc zero) (suc zero) hr hc = refl
  inverse_whole i (suc zero) (suc (suc zero)) hr hc = refl
  inverse_whole i (suc (suc zero)) zero hr hc = refl
  inverse_whole i (suc (suc zero)) (suc zero) hr hc = refl
  inverse_whole i (suc (suc zero)) (suc (suc zero)) hr hc = refl
  inverse_whole i (suc (suc (suc r))) c hr hc = absurd (omega arith)
  inverse_whole i zero (suc (suc (suc c))) hr hc = absurd (omega arith)
  inverse_whole i (suc zero) (suc (suc (suc c))) hr hc = absurd (omega arith)
  inverse_whole i (suc (suc zero)) (suc (suc (suc c))) hr hc = absurd (omega arith)

  pub inverse_is : (v : Solved) → Some v ≡ made → (i : ℕ → ℕ → Float) → SameEntries 3 3 (inverse_in v) (inverse f 3 (decomposed f 3 e) i)
  inverse_is v q i r c hr hc =
      ap (λ (x : Solved). inverse_in x r c) (whole_is v q) ∙ inverse_whole i r c hr hc ∙ sym (ap (λ (k : ℕ). inverse f 3 (left k) i r c) (taken_all v q))
