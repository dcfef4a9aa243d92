-- What the condition of a pivot says: by cases of the float. Assumes nothing.
use mathlib.Core.Path.{◌≡◌, refl, sym, ap, subst}
use mathlib.Core.Bool.{Bool, true, false, ◌&&◌, true≢false}
use Prim.Native.Nat.{◌*◌, zero-le}
use native.Mathlib.Nat.{lt_of_le_of_lt}
use lib.Dec.{T, ltb, ltb→lt, lt→ltb}
use lib.Ieee.{Float, nan, inf, fin, Format, up, down, lt, le, fits}
use lib.Ieee.Bits.{is_true}
use lib.Ieee.Fits.{and_l}
use lib.Ieee.Scale.{finite}
use lib.Ieee.Positive.{positive, first_pos}
use Rattle.numbers.specs.Sums.{plus0}
use Rattle.numbers.proofs.Largest.{largest, at_most_largest}
use Rattle.factors.specs.Pivots.{pivot_taken}

-- a pivot that is taken is above +0 and at most the largest number of its format: two comparisons, which a NaN fails
pub taken_up_to : (f : Format) (x : Float) → T (fits f x) → pivot_taken x ≡ lt plus0 x && le x (largest f)
unfolding pivot_taken lt le
taken_up_to f nan t = refl
taken_up_to f (inf true) t = refl
taken_up_to f (inf false) t = refl
taken_up_to f (fin true m e) t = refl
taken_up_to f (fin false m e) t = ap (λ (b : Bool). lt plus0 (fin false m e) && b) (sym (is_true (le (fin false m e) (largest f)) (at_most_largest f m e t)))

-- it is finite and above zero ..
pub taken_positive : (x : Float) → pivot_taken x ≡ true → T (positive x)
unfolding pivot_taken lt
taken_positive nan h = absurd (true≢false (sym h))
taken_positive (inf true) h = absurd (true≢false (sym h))
taken_positive (inf false) h = absurd (true≢false (sym h))
taken_positive (fin true m e) h = absurd (true≢false (sym h))
taken_positive (fin false m e) h =
    let a = 0 * 1 * down e in
    let b = m * up e * 1 in
    lt→ltb 0 m (first_pos m (up e) (first_pos (m * up e) 1 (lt_of_le_of_lt zero-le (ltb→lt a b (and_l (ltb a b) true (subst T (sym h) tt))))))

-- .. so one that is not finite is not taken
pub not_finite_refused : (x : Float) → finite x ≡ false → pivot_taken x ≡ false
unfolding pivot_taken lt
not_finite_refused nan h = refl
not_finite_refused (inf true) h = refl
not_finite_refused (inf false) h = refl
not_finite_refused (fin s m e) h = absurd (true≢false h)
