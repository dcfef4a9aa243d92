-- The prediction of two states on plain lists: A·P started last is the definition's (`late_zeros/proofs/Starts.antt`), and so is P from it. Assumes nothing.
use mathlib.Core.Path.{◌≡◌, ap₂, ◌∙◌}
use mathlib.Core.List.{List}
use Prim.Native.Nat.{ℕ}
use lib.ListN.{set}
use lib.Ieee.{Float, binary32, add, mul}
use Rattle.numbers.specs.Sums.{plus0, sum_from}
use Rattle.grids.specs.Grid.{cell, run, grid}
use Rattle.filters.specs.Prediction.{temp_p, predicted_p}
use Rattle.late_zeros.proofs.Starts.{ordered}

-- four numbers from the front of l on
abbrev four : List Float → Float → Float → Float → Float → List Float
four l a b c d = set (set (set (set l 0 a) 1 b) 2 c) 3 d

fours : (l : List Float) {a b c d a' b' c' d' : Float} → a ≡ a' → b ≡ b' → c ≡ c' → d ≡ d' → four l a b c d ≡ four l a' b' c' d'
fours l p q r s = rw (p, q, r, s)

module _ (A P : List Float) where
  -- 0 + x
  abbrev started : Float → Float
  started x = add binary32 plus0 x

  -- entry (r, c) of A·P, not started
  abbrev bare : ℕ → ℕ → Float
  bare r c = add binary32 (mul binary32 (cell 2 A r 0) (cell 2 P 0 c)) (mul binary32 (cell 2 A r 1) (cell 2 P 1 c))

  bare_is : (r c : ℕ) → started (bare r c) ≡ temp_p binary32 2 A P r c
  unfolding sum_from
  bare_is r c = ordered binary32 (cell 2 A r 0) (cell 2 P 0 c) (cell 2 A r 1) (cell 2 P 1 c)

  pub temp_left : (l l' : List Float) → l' ≡ four l (started (bare 0 0)) (started (bare 0 1)) (started (bare 1 0)) (started (bare 1 1)) → l' ≡ grid 2 2 (temp_p binary32 2 A P) l
  unfolding run grid
  temp_left l l' e = e ∙ fours l (bare_is 0 0) (bare_is 0 1) (bare_is 1 0) (bare_is 1 1)

  module _ (Q : List Float) where
    -- entry (r, c) of the new P from these
    abbrev more : ℕ → ℕ → Float
    more r c = add binary32 (add binary32 (started (mul binary32 (started (bare r 0)) (cell 2 A c 0))) (mul binary32 (started (bare r 1)) (cell 2 A c 1))) (cell 2 Q r c)

    more_is : (r c : ℕ) → more r c ≡ predicted_p binary32 2 A P Q r c
    unfolding sum_from
    more_is r c =
        ap₂ (λ (t u : Float). add binary32 (add binary32 (started (mul binary32 t (cell 2 A c 0))) (mul binary32 u (cell 2 A c 1))) (cell 2 Q r c)) (bare_is r 0) (bare_is r 1)

    pub p_left : (l l' : List Float) {a b c d : Float} → l' ≡ four l a b c d → a ≡ more 0 0 → b ≡ more 0 1 → c ≡ more 1 0 → d ≡ more 1 1 → l' ≡ grid 2 2 (predicted_p binary32 2 A P Q) l
    unfolding run grid
    p_left l l' e p q r s = e ∙ fours l (p ∙ more_is 0 0) (q ∙ more_is 0 1) (r ∙ more_is 1 0) (s ∙ more_is 1 1)
