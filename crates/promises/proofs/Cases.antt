-- What the enums that answer say, by their cases (R3): the pivot step and the record's correction say 4 exactly where the pivot is not taken, the correction 9 exactly where it is and the new x or p is not finite, and what they carry.
-- By the tests behind both.
-- Assumes nothing.
use mathlib.Core.Path.{◌≡◌, refl}
use mathlib.Core.Bool.{Bool, true, false, cond, ◌&&◌}
use mathlib.Core.List.{[], ◌∷◌}
use lib.Ieee.{Float, Format, binary32}
use Rattle.std.proofs.Common.{Err}
use Rattle.answers.specs.declared.Refusal.TheVariants.{Pivot, NotFinite}
use Rattle.answers.specs.Answers.{number_of, carried_by}
use Rattle.numbers.specs.Reciprocal.{recip_of}
use Rattle.numbers.specs.Root.{sqrt_of}
use Rattle.factors.specs.Pivots.{pivot_taken}
use Rattle.pivots.specs.declared.Pivot.TheVariants.{Accepted, Refused}
use Rattle.pivots.specs.Pivots as pivots
use Rattle.one_state.specs.declared.OneState.{OneState}
use Rattle.one_state.specs.declared.Corrected.TheVariants as one
use Rattle.one_state.specs.OneState.{spread, renewed, blinded, finite_xp, corrected, answer_of, handed_back}

-- ---- the pivot step on s
pivot_by : (b : Bool) (r q s : Float) → (pivots.number_of (cond b (Accepted r q) (Refused s)) ≡ cond b 0 4) × (pivots.carried_by (cond b (Accepted r q) (Refused s)) ≡ cond b (r ∷ q ∷ []) (s ∷ []))
pivot_by true r q s = (refl, refl)
pivot_by false r q s = (refl, refl)

pub pivot_says : (f : Format) (s : Float)
    → (pivots.number_of (pivots.pivot_of f s) ≡ cond (pivot_taken s) 0 4)
    × (pivots.carried_by (pivots.pivot_of f s) ≡ cond (pivot_taken s) (sqrt_of f s ∷ recip_of f (sqrt_of f s) ∷ []) (s ∷ []))
pivot_says f s = pivot_by (pivot_taken s) (sqrt_of f s) (recip_of f (sqrt_of f s)) s

-- ---- the record s by the reading z: t says whether S is taken, and u whether the new x and p are finite; s' is what comes back refused
record_by : (t u : Bool) (next s' : OneState)
    → let c = cond t (cond u (one.Accepted next) (one.Refused s' (Err NotFinite))) (one.Refused s' (Err (Pivot 0))) in
    (number_of (answer_of c) ≡ cond t (cond u 0 9) 4)
    × (carried_by (answer_of c) ≡ cond t [] (0 ∷ []))
    × (handed_back c ≡ cond (t && u) next s')
record_by true true next s' = (refl, refl, refl)
record_by true false next s' = (refl, refl, refl)
record_by false u next s' = (refl, refl, refl)

pub record_says : (s : OneState) (z : Float)
    → let taken = pivot_taken (spread binary32 s.h s.p s.r) in
    (number_of (answer_of (corrected s z)) ≡ cond taken (cond (finite_xp (renewed s z)) 0 9) 4)
    × (carried_by (answer_of (corrected s z)) ≡ cond taken [] (0 ∷ []))
    × (handed_back (corrected s z) ≡ cond (taken && finite_xp (renewed s z)) (renewed s z) (blinded s))
unfolding corrected
record_says s z = record_by (pivot_taken (spread binary32 s.h s.p s.r)) (finite_xp (renewed s z)) (renewed s z) (blinded s)
