-- What holds of one record over many calls holds of each feeder of a row (R33): row calls, read at feeder i, are calls of its record, so R23, R24, R31 and R32 are those of the record. Call by call, by what it makes of one feeder.
-- Assumes nothing.
use mathlib.Core.Path.{◌≡◌, refl, sym, subst, ◌∙◌}
use mathlib.Core.Bool.{Bool, true, false}
use mathlib.Core.List.{List}
use Prim.Native.Nat.{ℕ, ◌+◌, ◌≤◌, ◌<◌, min}
use native.Mathlib.Omega.{arith}
use lib.IntN.{ℤ}
use lib.ListN.{length}
use lib.Ieee.{Float, binary32, ne}
use Rattle.answers.specs.Answers.{is_done, Answer}
use Rattle.numbers.specs.Whole.{Whole}
use Rattle.one_state.specs.declared.OneState.{OneState}
use Rattle.one_state.specs.OneState.{finite_xp}
use Rattle.rows.specs.declared.Corrections.{Corrections}
use Rattle.rows.specs.Rows.{feeder, reading, PredictedRow, CorrectedRow, call_answer}
use Rattle.rows.proofs.Theorems.{row_length, refused_row_keeps, feeder-corrected, refused_feeder, predicted-length, refused_prediction_keeps, feeder-predicted}
use Rattle.promises.specs.Formulas.{Matrix, Spreading, exact_x, exact_p}
use Rattle.promises.specs.WholeNumbers.{AllSmallX, AllSmallP, AllUnitUpper, AsOf}
use Rattle.promises.specs.Yarns.{column, matrix, YarnRun}
use Rattle.promises.specs.Yarns as yarns
use Rattle.promises.specs.YarnNights.{YarnNight}
use Rattle.promises.specs.YarnNights as nights
use Rattle.promises.specs.Blind.{Shift, in_a_row, all_refused}
use Rattle.promises.specs.Blind as shifts
use Rattle.promises.specs.Feeders as rows
use Rattle.promises.specs.Feeders.{FeederRun, FeederNight, FeederShift}
use Rattle.promises.proofs.Yarns.{yarn_x_exact, yarn_p_exact, yarn_x_different, yarn_p_different}
use Rattle.promises.proofs.Nights.{yarn_finite_through_the_night}
use Rattle.promises.proofs.Blind.{blind_for, after_refusals}

-- ---- a run

-- Row calls in which no correction of feeder i was accepted are a run of its record.
pub feeder-run : {i : ℕ} {ms : List Matrix} {ss : List Spreading} {row e : List OneState} → i < length row → FeederRun i ms ss row e → YarnRun ms ss (feeder row i) (feeder e i)
feeder-run h rows.end = yarns.end
feeder-run {i} {e = e} h (rows.predict {ms = ms} {ss = ss} call d wa wq rest) =
    yarns.predict wa wq (subst (λ (s : OneState). YarnRun ms ss s (feeder e i)) (feeder-predicted call d i h) (feeder-run (omega (arith, predicted-length call)) rest))
feeder-run {i} h (rows.correct call d refused rest) =
    let six = (refused_feeder call d i h refused).0 in yarns.left six.same_x six.same_p (feeder-run (omega (arith, row_length call)) rest)
feeder-run {i} {ms} {ss} {e = e} h (rows.refused_predict call d rest) =
    subst (λ (l : List OneState). YarnRun ms ss (feeder l i) (feeder e i)) (refused_prediction_keeps call d) (feeder-run (omega (arith, predicted-length call)) rest)
feeder-run {i} {ms} {ss} {e = e} h (rows.refused_correct call d rest) =
    subst (λ (l : List OneState). YarnRun ms ss (feeder l i) (feeder e i)) (refused_row_keeps call d) (feeder-run (omega (arith, row_length call)) rest)
feeder-run {i} {row = row} h (rows.left {row' = row'} same x p rest) = yarns.left {s = feeder row i} {t = feeder row' i} x p (feeder-run (omega arith) rest)

-- R23 of each feeder by itself: its x and p end with exactly the whole numbers that the formulas give, whatever the other feeders hold
module _ {i : ℕ} {ms : List Matrix} {ss : List Spreading} {row e : List OneState} (h : i < length row) (went : FeederRun i ms ss row e) where
  pub feeder_x_exact : (v : ℤ) → Whole (feeder row i).x v → AllSmallX binary32 1 ms (column v) → Whole (feeder e i).x (exact_x 1 ms (column v) 0)
  feeder_x_exact = yarn_x_exact ms ss (feeder row i) (feeder e i) (feeder-run h went)

  pub feeder_p_exact : (v : ℤ) → Whole (feeder row i).p v → AllSmallP binary32 1 ss (matrix v) → Whole (feeder e i).p (exact_p 1 ss (matrix v) 0 0)
  feeder_p_exact = yarn_p_exact ms ss (feeder row i) (feeder e i) (feeder-run h went)

-- R24 of two feeders, of one row or of two: where each a is 1, different starts stay different
module _ {i j : ℕ} {ms : List Matrix} {ss : List Spreading} {row e row' e' : List OneState} (h : i < length row) (h' : j < length row') (went : FeederRun i ms ss row e) (went' : FeederRun j ms ss row' e') where
  pub feeder_x_different : (v v' : ℤ) → Whole (feeder row i).x v → Whole (feeder row' j).x v' → AllSmallX binary32 1 ms (column v) → AllSmallX binary32 1 ms (column v') → AllUnitUpper 1 ms
      → ne (feeder row i).x (feeder row' j).x ≡ true → ne (feeder e i).x (feeder e' j).x ≡ true
  feeder_x_different = yarn_x_different ms ss (feeder row i) (feeder e i) (feeder row' j) (feeder e' j) (feeder-run h went) (feeder-run h' went')

  pub feeder_p_different : (v v' : ℤ) → Whole (feeder row i).p v → Whole (feeder row' j).p v' → AllSmallP binary32 1 ss (matrix v) → AllSmallP binary32 1 ss (matrix v') → AllUnitUpper 1 (AsOf ss)
      → ne (feeder row i).p (feeder row' j).p ≡ true → ne (feeder e i).p (feeder e' j).p ≡ true
  feeder_p_different = yarn_p_different ms ss (feeder row i) (feeder e i) (feeder row' j) (feeder e' j) (feeder-run h went) (feeder-run h' went')

-- ---- a night

-- a correction of the row is one of feeder i, or nothing where the call is refused
night_correct : {i : ℕ} {row row' : List OneState} {zs : List Float} {c : Corrections} {t : OneState} → i < length row → CorrectedRow row zs c row' → YarnNight (feeder row' i) t → YarnNight (feeder row i) t
night_correct {i} {row} {row'} {zs} {c} {t} h call rest = go (is_done (call_answer c)) refl
  where
    go : (b : Bool) → is_done (call_answer c) ≡ b → YarnNight (feeder row i) t
    go true d = nights.correct (reading zs i) (subst (λ (s : OneState). YarnNight s t) (feeder-corrected call d i h) rest)
    go false d = subst (λ (l : List OneState). YarnNight (feeder l i) t) (refused_row_keeps call d) rest

-- A night of row calls is one of feeder i.
pub feeder_night : {i : ℕ} {row e : List OneState} → i < length row → FeederNight i row e → YarnNight (feeder row i) (feeder e i)
feeder_night h rows.end = nights.end
feeder_night h (rows.correct call rest) = night_correct h call (feeder_night (omega (arith, row_length call)) rest)
feeder_night h (rows.between same keeps rest) = nights.between keeps (feeder_night (omega arith) rest)

-- R31: a feeder that was finite in the evening is finite in the morning, whatever became of the others.
pub feeder_finite_through_the_night : {i : ℕ} {row e : List OneState} → i < length row → FeederNight i row e → finite_xp (feeder row i) ≡ true → finite_xp (feeder e i) ≡ true
feeder_finite_through_the_night h night = yarn_finite_through_the_night (feeder_night h night)

-- ---- a shift

-- the row stays as long as it is
shift_length : {i : ℕ} {s e : List OneState} {vs : List Answer} → FeederShift i s vs e → length e ≡ length s
shift_length rows.start = refl
shift_length (rows.predict call shift) = predicted-length call ∙ shift_length shift
shift_length (rows.correct call d shift) = row_length call ∙ shift_length shift
shift_length (rows.refused call d shift) = row_length call ∙ shift_length shift
shift_length (rows.between same blind shift) = same ∙ shift_length shift

-- a prediction of the row is one of feeder i, or nothing where the call is refused
shift_predict : {i : ℕ} {e e' : List OneState} {v : Answer} {vs : List Answer} {s : OneState} → i < length e → PredictedRow e v e' → Shift s vs (feeder e i) → Shift s vs (feeder e' i)
shift_predict {i} {e} {e'} {v} {vs} {s} h call shift = go (is_done v) refl
  where
    go : (b : Bool) → is_done v ≡ b → Shift s vs (feeder e' i)
    go true d = subst (Shift s vs) (sym (feeder-predicted call d i h)) (shifts.predict shift)
    go false d = subst (λ (l : List OneState). Shift s vs (feeder l i)) (sym (refused_prediction_keeps call d)) shift

-- A shift of row calls is one of feeder i, with what its own corrections answered.
pub feeder_shift : {i : ℕ} {s e : List OneState} {vs : List Answer} → i < length s → FeederShift i s vs e → Shift (feeder s i) vs (feeder e i)
feeder_shift h rows.start = shifts.start
feeder_shift h (rows.predict call shift) = shift_predict (omega (arith, shift_length shift)) call (feeder_shift h shift)
feeder_shift {i} {s} {vs = vs} h (rows.correct {zs = zs} call d shift) =
    subst (Shift (feeder s i) vs) (sym (feeder-corrected call d i (omega (arith, shift_length shift)))) (shifts.correct (reading zs i) (feeder_shift h shift))
feeder_shift {i} {s} {vs = vs} h (rows.refused call d shift) = subst (λ (l : List OneState). Shift (feeder s i) vs (feeder l i)) (sym (refused_row_keeps call d)) (feeder_shift h shift)
feeder_shift h (rows.between same blind shift) = shifts.between blind (feeder_shift h shift)

module _ {i : ℕ} {s e : List OneState} {vs : List Answer} (h : i < length s) (shift : FeederShift i s vs e) where
  -- R32: the count of each feeder is how many of its own corrections were refused in a row at the end, or 255 where that is more ..
  pub feeder_blind_for : (feeder s i).blind ≤ 255 → (feeder e i).blind ≡ min (in_a_row (feeder s i).blind vs) 255
  feeder_blind_for = blind_for (feeder_shift h shift)

  -- .. so one all of whose corrections were refused shows it, whatever became of the others.
  pub feeder_after_refusals : (feeder s i).blind ≤ 255 → all_refused vs ≡ true → (feeder e i).blind ≡ min ((feeder s i).blind + length vs) 255
  feeder_after_refusals = after_refusals (feeder_shift h shift)
