-- A refused call leaves x and P as lent, and may stand anywhere in a run. Each promise gives a buffer by the answer, so that a refusal reads off what was lent.
-- Assumes nothing.
use mathlib.Core.Path.{◌≡◌, refl, ap}
use mathlib.Core.Bool.{false}
use mathlib.Core.List.{List}
use Prim.Native.Nat.{ℕ}
use lib.Ieee.{Float, Format}
use Rattle.answers.specs.Answers.{is_done, Answer}
use Rattle.grids.specs.Grid.{cell}
use Rattle.entries.specs.Entries.{numbers}
use Rattle.filters.specs.Predicted.{Predicted, PredictedX, PredictedP}
use Rattle.filters.specs.Lent.{Buffers}
use Rattle.filters.specs.Corrected.{Renewed, Updated, Corrected}
use Rattle.promises.proofs.Unchanged.{predict_x_unchanged, predict_p_unchanged, predict_unchanged}
use Rattle.promises.specs.Formulas.{Matrix, Spreading}
use Rattle.promises.specs.Runs.{State, state, SameFront, Run, left}

-- ---- corrections: x and P are as lent after a refusal of any number, 4 and 9 among them
renewed_keeps : {f : Format} {n m : ℕ} {g v : Answer} {b e : Buffers} → Renewed f n m g v b e → is_done v ≡ false → (e.x ≡ b.x) × (e.P ≡ b.P)
renewed_keeps h r = (rw r at h.x_after, rw r at h.p_after)

pub refused_correction_keeps_x_and_p : {f : Format} {n m : ℕ} {b : Buffers} {v : Answer} {e : Buffers}
    → Corrected f n m b v e → is_done v ≡ false
    → (e.x ≡ b.x) × (e.P ≡ b.P)
refused_correction_keeps_x_and_p h r = renewed_keeps h.renewed r

pub refused_update_keeps_x_and_p : {f : Format} {n m : ℕ} {b : Buffers} {v : Answer} {e : Buffers}
    → Updated f n m b v e → is_done v ≡ false
    → (e.x ≡ b.x) × (e.P ≡ b.P)
refused_update_keeps_x_and_p h r = renewed_keeps h.renewed r

-- ---- in a run for n states: the refused call may have any size k and any buffers besides x and P
kept : {n : ℕ} {x P x' P' : List Float} → x' ≡ x → P' ≡ P → SameFront n (state x P) (state x' P')
kept {n} ex eP = record { x = λ r h. ap (λ (l : List Float). numbers l r) ex; P = λ r c hr hc. ap (λ (l : List Float). cell n l r c) eP }

module _ {f g : Format} {n k : ℕ} {ms : List Matrix} {ss : List Spreading} {e : State} (v : Answer) where
  pub refused_predict_in_a_run : {x A P Q px temp x' P' px' temp' : List Float}
      → Predicted g k x A P Q px temp v x' P' px' temp' → is_done v ≡ false
      → Run f n ms ss (state x' P') e → Run f n ms ss (state x P) e
  refused_predict_in_a_run h r = let l = predict_unchanged v r h in left (kept l.0 l.1)

  pub refused_predict_x_in_a_run : {x A P px x' px' : List Float}
      → PredictedX g k x A px v x' px' → is_done v ≡ false
      → Run f n ms ss (state x' P) e → Run f n ms ss (state x P) e
  refused_predict_x_in_a_run h r = left (kept (predict_x_unchanged v r h).0 refl)

  pub refused_predict_p_in_a_run : {x A P Q temp P' temp' : List Float}
      → PredictedP g k A P Q temp v P' temp' → is_done v ≡ false
      → Run f n ms ss (state x P') e → Run f n ms ss (state x P) e
  refused_predict_p_in_a_run h r = left (kept refl (predict_p_unchanged v r h).0)

  pub refused_correction_in_a_run : {m : ℕ} {b c : Buffers}
      → Corrected g k m b v c → is_done v ≡ false
      → Run f n ms ss (state c.x c.P) e → Run f n ms ss (state b.x b.P) e
  refused_correction_in_a_run h r = let l = refused_correction_keeps_x_and_p h r in left (kept l.0 l.1)

  pub refused_update_in_a_run : {m : ℕ} {b c : Buffers}
      → Updated g k m b v c → is_done v ≡ false
      → Run f n ms ss (state c.x c.P) e → Run f n ms ss (state b.x b.P) e
  refused_update_in_a_run h r = let l = refused_update_keeps_x_and_p h r in left (kept l.0 l.1)
