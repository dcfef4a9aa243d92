-- Two results that satisfy a promise are equal: both are what its equations say. Assumes nothing.
use mathlib.Core.Path.{◌≡◌}
use mathlib.Core.List.{List}
use Prim.Native.Nat.{ℕ}
use lib.Ieee.{Float, Format}
use Rattle.answers.specs.Answers.{Answer}
use Rattle.filters.specs.Predicted.{PredictedX, PredictedP, Predicted}

pub predict_x_unique : {f : Format} {n : ℕ} {x A px : List Float} {v w : Answer} {x' x'' px' px'' : List Float}
    → PredictedX f n x A px v x' px' → PredictedX f n x A px w x'' px'' → (v ≡ w) × (x' ≡ x'') × (px' ≡ px'')
predict_x_unique a b = (cc, cc, cc)

pub predict_p_unique : {f : Format} {n : ℕ} {A P Q temp : List Float} {v w : Answer} {P' P'' temp' temp'' : List Float}
    → PredictedP f n A P Q temp v P' temp' → PredictedP f n A P Q temp w P'' temp'' → (v ≡ w) × (P' ≡ P'') × (temp' ≡ temp'')
predict_p_unique a b = (cc, cc, cc)

pub predict_unique : {f : Format} {n : ℕ} {x A P Q px temp : List Float} {v w : Answer} {x' x'' P' P'' px' px'' temp' temp'' : List Float}
    → Predicted f n x A P Q px temp v x' P' px' temp' → Predicted f n x A P Q px temp w x'' P'' px'' temp''
    → (v ≡ w) × (x' ≡ x'') × (P' ≡ P'') × (px' ≡ px'') × (temp' ≡ temp'')
predict_unique a b = (cc, cc, cc, cc, cc)
