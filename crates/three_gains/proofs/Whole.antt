-- The gain for three observations, from what its calls leave to the entries of the definitions, over plain lists.
-- The six sums that `solve` is given are entries of S, since temp_HP holds H·P and t holds Hᵀ: so its numbers are S's factor and the inverse from it, or S has a pivot refused. Assumes nothing.
use mathlib.Core.Path.{◌≡◌, refl, sym, ap, ◌∙◌}
use mathlib.Core.Bool.{Bool, true, cond}
use mathlib.Core.List.{List}
use Prim.Native.Nat.{ℕ, ◌*◌, ◌≤◌}
use native.Mathlib.Omega.{arith}
use borrow.Author.Tests.{lt-ltb}
use lib.Dec.{ltb}
use lib.ListN.{length}
use lib.Ieee.{Float, Format, add}
use Rattle.grids.specs.Grid.{cell, grid, SameEntries}
use Rattle.grids.proofs.Grids.{grid_ext}
use Rattle.entries.specs.Entries.{times, product, product_t}
use Rattle.entries.proofs.Written.{written, times_alike, times_t_alike}
use Rattle.factors.specs.Decomposition.{reached, decomposed}
use Rattle.filters.specs.Correction.{hp_of, residual_of, factor_of, pivot_of, inverse_of, pht_of, gain_of}
use Rattle.filters.proofs.Steps.{residual}
use Rattle.std.specs.Prelude.{Option, Some, None}
use Rattle.three_solved.specs.declared.Solved.{Solved}
use Rattle.three_solved.specs.Solved.{factor_in, inverse_in, solved_of}
use Rattle.three_solved.proofs.Laws.{taken_all, refused_some, factor_is, inverse_is}
use Rattle.three_gains.specs.Widened.{widened}
use Rattle.three_gains.proofs.Laws.{as_transpose}

-- a buffer that is written only where b is false
as_lent : {b : Bool} (l m : List Float) → b ≡ true → l ≡ cond b l m
as_lent l m t = rw t refl

-- t' holds Hᵀ in rows of four, and HP' holds H·P
module _ (f : Format) (n : ℕ) (P H R t HP t' HP' : List Float) (t-fits : n * 4 ≤ length t) (HP-fits : 3 * n ≤ length HP)
    (turned : t' ≡ grid n 4 (widened (cell n H)) t) (hp : HP' ≡ grid 3 n (product f n n H P) HP) where
  -- S by the definition, and by what `solve` adds up
  abbrev s_matrix : ℕ → ℕ → Float
  s_matrix = residual_of f n (cell n H) (cell n P) (cell 3 R)

  abbrev sum : ℕ → ℕ → Float
  sum i j = add f (product f n 4 HP' t' i j) (cell 3 R i j)

  sum_is : SameEntries 3 3 sum s_matrix
  sum_is i j hi hj =
      ap (λ (x : Float). add f x (cell 3 R i j))
      (as_transpose f 3 n HP' H t t' t-fits turned i j hi hj
      ∙ times_t_alike f 3 n 3 (cell n HP') (hp_of f n (cell n H) (cell n P)) (cell n H) (cell n H) (written 3 n _ HP HP' HP-fits hp) (λ r c hr hc. refl) i j hi hj)

  module _ (o : Option Solved) (told : o ≡ solved_of f (sum 0 0) (sum 0 1) (sum 0 2) (sum 1 1) (sum 1 2) (sum 2 2)) where
    of_s : o ≡ solved_of f (s_matrix 0 0) (s_matrix 0 1) (s_matrix 0 2) (s_matrix 1 1) (s_matrix 1 2) (s_matrix 2 2)
    of_s =
        told
        ∙ same_six (sum_is 0 0 (omega arith) (omega arith)) (sum_is 0 1 (omega arith) (omega arith)) (sum_is 0 2 (omega arith) (omega arith)) (sum_is 1 1 (omega arith) (omega arith)) (sum_is 1 2 (omega arith) (omega arith)) (sum_is 2 2 (omega arith) (omega arith))
      where
        same_six : {a b c d e g a' b' c' d' e' g' : Float} → a ≡ a' → b ≡ b' → c ≡ c' → d ≡ d' → e ≡ e' → g ≡ g' → solved_of f a b c d e g ≡ solved_of f a' b' c' d' e' g'
        same_six p q r s u w = rw (p, q, r, s, u, w) refl

    -- Every pivot is taken: the numbers are stored, and the gain.
    pub taken :
        (v : Solved) (S I PHt K : List Float) {S' I' PHt' K' : List Float} → o ≡ Some v → K' ≡ grid n 3 (times f 3 (product f n 4 P t') (inverse_in v)) K
        → PHt' ≡ grid n 3 (product f n 4 P t') PHt → S' ≡ grid 3 3 (factor_in v) S → I' ≡ grid 3 3 (inverse_in v) I
        → (3 ≡ pivot_of f n 3 (cell n H) (cell n P) (cell 3 R)) × (HP' ≡ grid 3 n (hp_of f n (cell n H) (cell n P)) HP)
        × (S' ≡ grid 3 3 (factor_of f n 3 (cell n H) (cell n P) (cell 3 R)) S) × (I' ≡ grid 3 3 (inverse_of f n 3 (cell n H) (cell n P) (cell 3 R) (cell 3 I)) I)
        × (PHt' ≡ grid n 3 (pht_of f n (cell n H) (cell n P)) PHt) × (K' ≡ grid n 3 (gain_of f n 3 (cell n H) (cell n P) (cell 3 R) (cell 3 I)) K)
    taken v S I PHt K said k pht s i =
        let made = sym said ∙ of_s in
        let inv = inverse_is f s_matrix v made (cell 3 I) in
        let by-t = as_transpose f n n P H t t' t-fits turned in (
          sym (taken_all f s_matrix v made),
          hp,
          s ∙ factor_is f s_matrix v made S,
          i ∙ grid_ext 3 3 _ _ I inv,
          pht ∙ grid_ext n 3 _ _ PHt by-t,
          k ∙ grid_ext n 3 _ _ K (times_alike f n 3 3 (product f n 4 P t') (product_t f n P H) (inverse_in v) _ by-t inv),
        )

    -- A pivot is refused: S is formed anew and decomposed, and three buffers are as lent.
    pub refused :
        (S I PHt K S₁ : List Float) {S₂ : List Float} {j : ℕ} → o ≡ None → 9 ≤ length S
        → S₁ ≡ grid 3 3 (λ r c. add f (product_t f n HP' H r c) (cell 3 R r c)) S → j ≡ reached f 3 (cell 3 S₁) → S₂ ≡ grid 3 3 (decomposed f 3 (cell 3 S₁)) S₁
        → (j ≡ pivot_of f n 3 (cell n H) (cell n P) (cell 3 R)) × (HP' ≡ grid 3 n (hp_of f n (cell n H) (cell n P)) HP)
        × (S₂ ≡ grid 3 3 (factor_of f n 3 (cell n H) (cell n P) (cell 3 R)) S) × (I ≡ cond (ltb j 3) I (grid 3 3 (inverse_of f n 3 (cell n H) (cell n P) (cell 3 R) (cell 3 I)) I))
        × (PHt ≡ cond (ltb j 3) PHt (grid n 3 (pht_of f n (cell n H) (cell n P)) PHt)) × (K ≡ cond (ltb j 3) K (grid n 3 (gain_of f n 3 (cell n H) (cell n P) (cell 3 R) (cell 3 I)) K))
    refused S I PHt K S₁ {S₂} {j} said s_fits summed index factored =
        let k = residual f n 3 P H R HP S HP' S₁ HP-fits s_fits hp summed index factored in
        let less : ltb j 3 ≡ true = lt-ltb j 3 (rw k.0 (refused_some f s_matrix (sym said ∙ of_s))) in (
          k.0,
          hp,
          k.1,
          as_lent I _ less,
          as_lent PHt _ less,
          as_lent K _ less,
        )
