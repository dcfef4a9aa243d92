-- The feeder's filter: the prediction is never refused, and a correction that is leaves the feeder as it was. Assumes nothing.
use mathlib.Core.Path.{◌≡◌, ap₂, ◌∙◌}
use mathlib.Core.Bool.{false}
use mathlib.Core.List.{List, [], ◌∷◌}
use Prim.Native.Nat.{ℕ}
use lib.ListN.{length}
use lib.Ieee.{Float, binary32}
use Rattle.std.proofs.Common.{Ok}
use Rattle.answers.specs.Answers.{is_done, Answer}
use Rattle.filters.specs.Predicted.{Predicted, predict_answer}
use Rattle.feeder.specs.declared.Feeder.{Feeder}
use Rattle.feeder.specs.Feeder.{zero32, model, noise, forecast, Took}

-- a feeder by its two arrays
same_feeder : (f g : Feeder) → g.x ≡ f.x → g.p ≡ f.p → g ≡ f
same_feeder f g x p = ap₂ (λ (x p : List Float). record { x = x; p = p }) x p

answered : (x p : ℕ) → x ≡ 2 → p ≡ 4 → predict_answer 2 x 4 p 4 2 4 ≡ Ok tt
unfolding predict_answer
answered x p lx lp = rw (lx, lp)

-- the arrays have the lengths that a prediction for two states asks
pub predicted-feeder : (f g : Feeder) {v : Answer} {px' temp' : List Float} → length f.x ≡ 2 → length f.p ≡ 4
    → Predicted binary32 2 f.x model f.p noise (zero32 ∷ zero32 ∷ []) (zero32 ∷ zero32 ∷ zero32 ∷ zero32 ∷ []) v g.x g.p px' temp'
    → g ≡ forecast f
predicted-feeder f g {v} lx lp h =
    let done : v ≡ Ok tt = h.answer ∙ answered (length f.x) (length f.p) lx lp in
    same_feeder (forecast f) g (rw done at h.x_after) (rw done at h.p_after)

-- "Refusal 4 leaves x, P .. as lent", and so does any other
pub refused_keeps : (f g : Feeder) {z r : Float} {v : Answer} → Took f z r v g → is_done v ≡ false → g ≡ f
refused_keeps f g t r = same_feeder f g (t.x ∙ rw r at t.corrected.renewed.x_after) (t.p ∙ rw r at t.corrected.renewed.p_after)
