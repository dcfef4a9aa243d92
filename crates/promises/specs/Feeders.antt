-- A row of feeders over many calls, read at one of them, the i-th (R33): whole numbers, a night, a blind shift. Each call is lent a row, and the next one the row that it left. Definitions only.
use Rattle.std.specs.Prelude.{◌≡◌, true, false, List, [], ◌∷◌, ℕ, ℤ, length, Float}
use Rattle.answers.specs.Answers.{is_done, Answer}
use Rattle.numbers.specs.Whole.{Whole}
use Rattle.one_state.specs.declared.OneState.{OneState}
use Rattle.one_state.specs.OneState.{finite_xp}
use Rattle.rows.specs.declared.Corrections.{Corrections}
use Rattle.rows.specs.Rows.{feeder, answer_at, accepted_at, call_answer, PredictedRow, CorrectedRow}
use Rattle.promises.specs.Formulas.{Matrix, Spreading}
use Rattle.promises.specs.Yarns.{matrix}

-- A run of row calls, from the row lent first to the row left last, in which no correction of feeder i was accepted; the numbers of its a and q at each prediction are listed, the first first.
pub data FeederRun (i : ℕ) : List Matrix → List Spreading → List OneState → List OneState → Type 0 where
  -- no call
  end : {row : List OneState} → FeederRun i [] [] row row
  -- all predicted
  predict : {v : Answer} {a q : ℤ} {ms : List Matrix} {ss : List Spreading} {row row' e : List OneState}
      → PredictedRow row v row' → is_done v ≡ true
      → Whole (feeder row i).a a → Whole (feeder row i).q q
      → FeederRun i ms ss row' e
      → FeederRun i (matrix a ∷ ms) (record { a = matrix a; q = matrix q } ∷ ss) row e
  -- all corrected, feeder i refused among them, whatever became of the others
  correct : {zs : List Float} {c : Corrections} {ms : List Matrix} {ss : List Spreading} {row row' e : List OneState}
      → CorrectedRow row zs c row' → is_done (call_answer c) ≡ true → accepted_at row zs i ≡ false
      → FeederRun i ms ss row' e
      → FeederRun i ms ss row e
  -- a prediction of the row that is refused
  refused_predict : {v : Answer} {ms : List Matrix} {ss : List Spreading} {row row' e : List OneState}
      → PredictedRow row v row' → is_done v ≡ false
      → FeederRun i ms ss row' e
      → FeederRun i ms ss row e
  -- a correction of the row that is refused
  refused_correct : {zs : List Float} {c : Corrections} {ms : List Matrix} {ss : List Spreading} {row row' e : List OneState}
      → CorrectedRow row zs c row' → is_done (call_answer c) ≡ false
      → FeederRun i ms ss row' e
      → FeederRun i ms ss row e
  -- anything that leaves x and p of feeder i: calls of other feeders by themselves, another model
  left : {ms : List Matrix} {ss : List Spreading} {row row' e : List OneState}
      → length row' ≡ length row → (feeder row' i).x ≡ (feeder row i).x → (feeder row' i).p ≡ (feeder row i).p
      → FeederRun i ms ss row' e
      → FeederRun i ms ss row e

-- A night of row calls, from the row lent first to the row left last.
pub data FeederNight (i : ℕ) : List OneState → List OneState → Type 0 where
  -- no call
  end : {row : List OneState} → FeederNight i row row
  -- all corrected, whatever became of each, or the call refused
  correct : {zs : List Float} {c : Corrections} {row row' e : List OneState}
      → CorrectedRow row zs c row'
      → FeederNight i row' e
      → FeederNight i row e
  -- anything between that leaves feeder i finite where it was: a prediction whose numbers do not overflow, another model
  between : {row row' e : List OneState}
      → length row' ≡ length row → (finite_xp (feeder row i) ≡ true → finite_xp (feeder row' i) ≡ true)
      → FeederNight i row' e
      → FeederNight i row e

-- A shift of row calls that took the row s to the row e; what the corrections of feeder i answered is listed, the latest first.
pub data FeederShift (i : ℕ) : List OneState → List Answer → List OneState → Type 0 where
  -- no call yet
  start : {row : List OneState} → FeederShift i row [] row
  -- all predicted, or the call refused
  predict : {v : Answer} {vs : List Answer} {s e e' : List OneState}
      → PredictedRow e v e'
      → FeederShift i s vs e
      → FeederShift i s vs e'
  -- all corrected, whatever became of each
  correct : {zs : List Float} {c : Corrections} {vs : List Answer} {s e e' : List OneState}
      → CorrectedRow e zs c e' → is_done (call_answer c) ≡ true
      → FeederShift i s vs e
      → FeederShift i s (answer_at e zs i ∷ vs) e'
  -- a correction of the row that is refused: no feeder was corrected, and none counts it
  refused : {zs : List Float} {c : Corrections} {vs : List Answer} {s e e' : List OneState}
      → CorrectedRow e zs c e' → is_done (call_answer c) ≡ false
      → FeederShift i s vs e
      → FeederShift i s vs e'
  -- anything that leaves the count of feeder i: another model, x and p set anew
  between : {vs : List Answer} {s e e' : List OneState}
      → length e' ≡ length e → (feeder e' i).blind ≡ (feeder e i).blind
      → FeederShift i s vs e
      → FeederShift i s vs e'
