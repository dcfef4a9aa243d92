-- What the two calls over a row promise further, of any call that keeps `CorrectedRow` or `PredictedRow`: each feeder by itself, which calls are refused, what a correction says, one outcome.
-- What is left goes by the answer, record by record; what is said goes by the laws of the first index that fails and of how many do not. Assumes nothing.
use mathlib.Core.Path.{◌≡◌, refl, sym, ap, subst, ◌∙◌}
use mathlib.Core.Bool.{true, false, true≢false}
use mathlib.Core.List.{List, [], ◌∷◌}
use Prim.Native.Nat.{ℕ, ◌<◌, ◌≤◌}
use native.Mathlib.Nat.{not-suc-le-zero}
use native.Mathlib.Omega.{arith}
use lib.ListN.{length}
use lib.Ieee.{Float}
use Rattle.std.proofs.Common.{Ok, Err}
use Rattle.answers.specs.declared.Refusal.TheVariants.{Size, Short}
use Rattle.answers.specs.Answers.{is_done, settled, Answer}
use Rattle.factors.proofs.First.{first_ext}
use Rattle.one_state.specs.declared.OneState.{OneState}
use Rattle.one_state.specs.declared.Corrected.{Corrected}
use Rattle.one_state.specs.declared.Corrected.TheVariants as one
use Rattle.one_state.specs.OneState.{SameSix, one_up, finite_xp, predicted, corrected, answer_of, handed_back}
use Rattle.one_state.proofs.Cases.{comes_back, handed_count, six_stay}
use Rattle.one_state.proofs.Finite.{accepted_finite}
use Rattle.rows.specs.declared.Corrections.{Corrections}
use Rattle.rows.specs.declared.Corrections.TheVariants.{All, Part, Refused}
use Rattle.rows.specs.Rows.{no_feeder, feeder, reading, each, readings_answer, PredictedRow, corrected_by, corrected_row, answer_at, accepted_at, how_many, CorrectedRow, call_answer, accepted_by, first_refused_by}
use Rattle.rows.proofs.Each.{each_ext}
use Rattle.rows.proofs.Tallies.{how_many_ext}
use Rattle.rows.proofs.Settled.{anew_at, all_kept, same_length}
use Rattle.rows.proofs.Refusals.{readings_1, readings_2, readings_done, readings_only_1, readings_only_2, readings_only_done, readings_enough, row_1, row_done, row_only_1, row_only_done, told_answer, told_done, told_refused}
use Rattle.rows.proofs.Outcomes.{outcome, counted, named_least, least_named, none_named, all_told}

-- a row as long as none is none
none_left : (row : List OneState) → length row ≡ 0 → row ≡ []
none_left [] e = refl
none_left (s ∷ row) e = absurd (omega arith)

-- an accepted correction leaves x and p finite
finite_where_done : (s : OneState) (z : Float) (t : Corrected) → corrected s z ≡ t → is_done (answer_of t) ≡ true → finite_xp (handed_back t) ≡ true
finite_where_done s z (one.Accepted t) e d = accepted_finite s z t e
finite_where_done s z (one.Refused t v) e d = absurd (true≢false (sym d ∙ (comes_back s z t v e).1))

-- ---- a correction of the row by the readings zs, which says c and leaves row'

module _ {row row' : List OneState} {zs : List Float} {c : Corrections} (call : CorrectedRow row zs c row') where
  -- The call's own answer goes by how many records and readings there are ..
  pub call_answer_lem : call_answer c ≡ readings_answer (length row) (length zs)
  call_answer_lem = ap call_answer call.says ∙ told_answer (length row) (length zs) _ _

  -- where it is done, so is the answer of the row and its readings
  answered : is_done (call_answer c) ≡ true → is_done (readings_answer (length row) (length zs)) ≡ true
  answered d = ap is_done (sym call_answer_lem) ∙ d

  -- where that is a refusal the call says so
  refused_with : (v : Answer) → is_done v ≡ false → readings_answer (length row) (length zs) ≡ v → c ≡ Refused v
  refused_with v r e = call.says ∙ told_refused (length row) (length zs) _ _ (ap is_done e ∙ r) ∙ ap Refused e

  -- .. 1 where there are more than twelve records ..
  pub says_1 : 12 < length row → c ≡ Refused (Err (Size 0))
  says_1 h = refused_with (Err (Size 0)) refl (readings_1 (length row) (length zs) h)

  -- .. and only there ..
  pub only_1 : c ≡ Refused (Err (Size 0)) → 12 < length row
  only_1 e = readings_only_1 (length row) (length zs) (sym call_answer_lem ∙ ap call_answer e)

  -- .. 2 where there are not, and the readings are fewer ..
  pub says_2 : length row ≤ 12 → length zs < length row → c ≡ Refused (Err (Short 1))
  says_2 h l = refused_with (Err (Short 1)) refl (readings_2 (length row) (length zs) h l)

  -- .. and only there ..
  pub only_2 : c ≡ Refused (Err (Short 1)) → (length row ≤ 12) × (length zs < length row)
  only_2 e = readings_only_2 (length row) (length zs) (sym call_answer_lem ∙ ap call_answer e)

  -- .. and done where neither holds ..
  pub says_done : length row ≤ 12 → length row ≤ length zs → is_done (call_answer c) ≡ true
  says_done h l = ap is_done (call_answer_lem ∙ readings_done (length row) (length zs) h l)

  -- .. and only there.
  pub only_done : is_done (call_answer c) ≡ true → (length row ≤ 12) × (length row ≤ length zs)
  only_done d = readings_only_done (length row) (length zs) (answered d)

  -- What it leaves goes by that answer.
  pub leaves : row' ≡ settled (call_answer c) (each (corrected_by zs) (length row) row) row
  leaves = call.after ∙ ap (λ (v : Answer). settled v (corrected_row row zs) row) (sym call_answer_lem)

  -- The row stays as long as it is ..
  pub row_length : length row' ≡ length row
  row_length = same_length (corrected_by zs) (call_answer c) row row' leaves

  -- .. refused, it is as lent ..
  pub refused_row_keeps : is_done (call_answer c) ≡ false → row' ≡ row
  refused_row_keeps = all_kept (corrected_by zs) (call_answer c) row row' leaves

  -- .. and done, each feeder is what its own correction hands back, by the reading of its own index.
  pub feeder-corrected : is_done (call_answer c) ≡ true → (i : ℕ) → i < length row → feeder row' i ≡ handed_back (corrected (feeder row i) (reading zs i))
  feeder-corrected d i = anew_at (corrected_by zs) (call_answer c) row row' leaves d i no_feeder

  -- A feeder that is refused keeps its six numbers, and its count is one up ..
  pub refused_feeder :
      is_done (call_answer c) ≡ true → (i : ℕ) → i < length row → accepted_at row zs i ≡ false
      → SameSix (feeder row i) (feeder row' i) × ((feeder row' i).blind ≡ one_up (feeder row i).blind)
  refused_feeder d i h e =
      let after = feeder-corrected d i h in (
        subst (SameSix (feeder row i)) (sym after) (six_stay (feeder row i) (reading zs i) e),
        ap (λ (s : OneState). s.blind) after ∙ handed_count (feeder row i) (reading zs i) ∙ rw e refl,
      )

  -- .. and one that is accepted has a finite x and p, and a count of 0.
  pub accepted_feeder :
      is_done (call_answer c) ≡ true → (i : ℕ) → i < length row → accepted_at row zs i ≡ true → (finite_xp (feeder row' i) ≡ true) × ((feeder row' i).blind ≡ 0)
  accepted_feeder d i h e =
      let after = feeder-corrected d i h in (
        ap finite_xp after ∙ finite_where_done (feeder row i) (reading zs i) _ refl e,
        ap (λ (s : OneState). s.blind) after ∙ handed_count (feeder row i) (reading zs i) ∙ rw e refl,
      )

  -- what a call that is done says
  told : is_done (call_answer c) ≡ true → c ≡ outcome (accepted_at row zs) (length row)
  told d = call.says ∙ told_done (length row) (length zs) _ _ (answered d)

  -- Done, it says how many of the feeders were accepted ..
  pub counts_accepted : is_done (call_answer c) ≡ true → accepted_by c ≡ how_many (accepted_at row zs) (length row)
  counts_accepted d = ap accepted_by (told d) ∙ counted (accepted_at row zs) (length row)

  -- .. and which was the first that was not: the index that it names was refused, and none before it ..
  pub first_is_least : (k i : ℕ) → c ≡ Part k i → (i < length row) × ((j : ℕ) → j < i → accepted_at row zs j ≡ true) × (accepted_at row zs i ≡ false)
  first_is_least k i e = named_least (accepted_at row zs) (length row) k i (sym (told (ap (λ (d : Corrections). is_done (call_answer d)) e)) ∙ e)

  -- .. and an index that was refused, with none before it, is named.
  pub least_is_first :
      is_done (call_answer c) ≡ true → (i : ℕ) → i < length row → ((j : ℕ) → j < i → accepted_at row zs j ≡ true) → accepted_at row zs i ≡ false
      → c ≡ Part (how_many (accepted_at row zs) (length row)) i
  least_is_first d i h before here = told d ∙ least_named (accepted_at row zs) (length row) i h before here

  -- It names none exactly where every feeder was accepted.
  pub none_refused : is_done (call_answer c) ≡ true
      → (first_refused_by c ≡ [] → (i : ℕ) → i < length row → accepted_at row zs i ≡ true) × (((i : ℕ) → i < length row → accepted_at row zs i ≡ true) → c ≡ All (length row))
  none_refused d =
      (λ e. none_named (accepted_at row zs) (length row) (ap first_refused_by (sym (told d)) ∙ e), λ all. told d ∙ all_told (accepted_at row zs) (length row) all)

-- ---- two corrections

-- What becomes of a feeder depends on itself and on its own reading alone. Of two calls that are done, over rows and readings of any lengths, two feeders that were alike and had the same reading are left alike, wherever they stand
-- and whatever the others hold; and their corrections answer alike.
pub only_its_own :
    {row row' s s' : List OneState} {zs ys : List Float} {c d : Corrections} → CorrectedRow row zs c row' → CorrectedRow s ys d s' → is_done (call_answer c) ≡ true → is_done (call_answer d) ≡ true
    → (i j : ℕ) → i < length row → j < length s → feeder row i ≡ feeder s j → reading zs i ≡ reading ys j
    → (feeder row' i ≡ feeder s' j) × (answer_at row zs i ≡ answer_at s ys j)
only_its_own p q dp dq i j hi hj f r = (cc (feeder-corrected p dp i hi, feeder-corrected q dq j hj), cc)

-- Readings past the last record do not matter: neither to what the call says nor to the row that it leaves.
pub rest_not_read :
    {row row' row'' : List OneState} {zs ys : List Float} {c d : Corrections} → CorrectedRow row zs c row' → CorrectedRow row ys d row'' → length row ≤ length zs → length row ≤ length ys
    → ((i : ℕ) → i < length row → reading zs i ≡ reading ys i) → (c ≡ d) × (row' ≡ row'')
rest_not_read {row} {zs = zs} {ys = ys} p q l m same =
    let n = length row in
    let alike : (i : ℕ) → i < n → accepted_at row zs i ≡ accepted_at row ys i = λ i h. ap (λ (z : Float). is_done (answer_of (corrected (feeder row i) z))) (same i h) in
    let answer = readings_enough n (length zs) l ∙ sym (readings_enough n (length ys) m) in (
      p.says ∙ cc (answer, how_many_ext (accepted_at row zs) (accepted_at row ys) n alike, first_ext (accepted_at row zs) (accepted_at row ys) n alike) ∙ sym q.says,
      p.after ∙ cc (answer, each_ext (corrected_by zs) (corrected_by ys) n row no_feeder (λ i h _. ap (λ (z : Float). handed_back (corrected (feeder row i) z)) (same i h))) ∙ sym q.after,
    )

-- A row of none is taken: all of none are accepted, and none is left.
pub no_feeders : {row' : List OneState} {zs : List Float} {c : Corrections} → CorrectedRow [] zs c row' → (c ≡ All 0) × (row' ≡ [])
no_feeders p = ((none_refused p (says_done p (omega arith) (omega arith))).1 (λ i h. absurd (not-suc-le-zero h)), none_left _ (row_length p))

-- Two results of one call are equal.
pub corrected_unique : {row row' row'' : List OneState} {zs : List Float} {c d : Corrections} → CorrectedRow row zs c row' → CorrectedRow row zs d row'' → (c ≡ d) × (row' ≡ row'')
corrected_unique p q = (cc, cc)

-- ---- a prediction of the row, which answers v and leaves row'

module _ {row row' : List OneState} {v : Answer} (call : PredictedRow row v row') where
  -- It answers 1 where there are more than twelve records ..
  pub predicted_says_1 : 12 < length row → v ≡ Err (Size 0)
  predicted_says_1 h = call.answer ∙ row_1 (length row) h

  -- .. and only there ..
  pub predicted_only_1 : v ≡ Err (Size 0) → 12 < length row
  predicted_only_1 e = row_only_1 (length row) (sym call.answer ∙ e)

  -- .. and is done where there are not ..
  pub predicted_says_done : length row ≤ 12 → v ≡ Ok tt
  predicted_says_done h = call.answer ∙ row_done (length row) h

  -- .. and only there.
  pub predicted_only_done : is_done v ≡ true → length row ≤ 12
  predicted_only_done d = row_only_done (length row) (ap is_done (sym call.answer) ∙ d)

  -- The row stays as long as it is ..
  pub predicted-length : length row' ≡ length row
  predicted-length = same_length (λ i s. predicted s) v row row' call.after

  -- .. refused, it is as lent ..
  pub refused_prediction_keeps : is_done v ≡ false → row' ≡ row
  refused_prediction_keeps = all_kept (λ i s. predicted s) v row row' call.after

  -- .. and done, each feeder is predicted by itself.
  pub feeder-predicted : is_done v ≡ true → (i : ℕ) → i < length row → feeder row' i ≡ predicted (feeder row i)
  feeder-predicted d i = anew_at (λ i s. predicted s) v row row' call.after d i no_feeder

-- What becomes of a feeder depends on itself alone.
pub predicted_only_its_own :
    {row row' s s' : List OneState} {v w : Answer} → PredictedRow row v row' → PredictedRow s w s' → is_done v ≡ true → is_done w ≡ true
    → (i j : ℕ) → i < length row → j < length s → feeder row i ≡ feeder s j → feeder row' i ≡ feeder s' j
predicted_only_its_own p q dp dq i j hi hj f = cc (feeder-predicted p dp i hi, feeder-predicted q dq j hj)

-- A row of none is taken.
pub predicted_no_feeders : {row' : List OneState} {v : Answer} → PredictedRow [] v row' → (v ≡ Ok tt) × (row' ≡ [])
predicted_no_feeders p = (predicted_says_done p (omega arith), none_left _ (predicted-length p))

-- Two results of one call are equal.
pub predicted_unique : {row row' row'' : List OneState} {v w : Answer} → PredictedRow row v row' → PredictedRow row w row'' → (v ≡ w) × (row' ≡ row'')
predicted_unique p q = (cc, cc)
