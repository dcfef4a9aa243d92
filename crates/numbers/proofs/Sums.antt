-- What a loop that adds up needs: no term, a turn from a given start, a turn from the first term, and terms that are equal one by one. Assumes nothing.
use mathlib.Core.Path.{◌≡◌, refl, ap₂}
use Prim.Native.Nat.{ℕ, zero, suc, ◌+◌, ◌<◌}
use native.Mathlib.Nat.{le_step, le_refl, not-suc-le-zero}
use native.Mathlib.Numerals.{add-one}
use lib.Ieee.{Float, Format, add}
use Rattle.numbers.specs.Sums.{sum_from, sum_of_first}

pub sum_none : (f : Format) (start : Float) (t : ℕ → Float) → sum_from f start t 0 ≡ start
unfolding sum_from
sum_none f start t = refl

pub sum_next : (f : Format) (start : Float) (t : ℕ → Float) (n : ℕ) → sum_from f start t (n + 1) ≡ add f (sum_from f start t n) (t n)
unfolding sum_from
sum_next f start t n = rw add-one

pub first_only : (f : Format) (t : ℕ → Float) → sum_of_first f t 1 ≡ t 0
unfolding sum_from
first_only f t = refl

pub first_next : (f : Format) (t : ℕ → Float) (n : ℕ) → 0 < n → sum_of_first f t (n + 1) ≡ add f (sum_of_first f t n) (t n)
unfolding sum_from
first_next f t zero l = absurd (not-suc-le-zero l)
first_next f t (suc n) l = rw (add-one (suc n))

pub sum_same : (f : Format) (start : Float) (t u : ℕ → Float) (n : ℕ) → ((k : ℕ) → k < n → t k ≡ u k) → sum_from f start t n ≡ sum_from f start u n
unfolding sum_from
sum_same f start t u zero e = refl
sum_same f start t u (suc n) e = ap₂ (add f) (sum_same f start t u n (λ k l. e k (le_step l))) (e n (le_refl (suc n)))
