-- A call over a row leaves and says what the calls by value leave and say that are made one by one, from the first (R33). After k of them the row is the first k anew; the k-th reads its record as it was lent. Assumes nothing.
use mathlib.Core.Path.{◌≡◌, refl, ap, sym, ◌∙◌}
use mathlib.Core.Bool.{Bool, true}
use mathlib.Core.List.{List}
use Prim.Native.Nat.{ℕ, zero, suc, ◌<◌, ◌≤◌}
use native.Mathlib.Omega.{arith}
use lib.ListN.{length, set}
use lib.Ieee.{Float}
use Rattle.answers.specs.Answers.{is_done, settled, Answer}
use Rattle.factors.specs.Decomposition.{first_not}
use Rattle.factors.proofs.First.{first_ext}
use Rattle.one_state.specs.declared.OneState.{OneState}
use Rattle.one_state.specs.OneState.{predicted, corrected, answer_of}
use Rattle.rows.specs.declared.Corrections.{Corrections}
use Rattle.rows.specs.Rows.{no_feeder, feeder, reading, each, PredictedRow, answer_at, accepted_at, how_many, told_of, CorrectedRow, call_answer, corrected_by}
use Rattle.rows.specs.OneByOne.{one_after_another}
use Rattle.rows.proofs.Each.{each_more, each_past}
use Rattle.rows.proofs.Tallies.{how_many_ext}
use Rattle.rows.proofs.Settled.{all_anew}
use Rattle.rows.proofs.Theorems.{leaves}

-- The row after n of the calls one by one is its first n records anew.
pub one_by_one : (g : ℕ → OneState → OneState) (n : ℕ) (row : List OneState) → n ≤ length row → one_after_another g n row ≡ each g n row
unfolding one_after_another each
one_by_one g zero row h = refl
one_by_one g (suc n) row h = ap (λ (l : List OneState). set l n (g n (feeder l n))) (one_by_one g n row (omega arith)) ∙ each_more g n row no_feeder h

-- so the record that the next one reads is as it was lent
untouched : (g : ℕ → OneState → OneState) (k : ℕ) (row : List OneState) → k < length row → feeder (one_after_another g k row) k ≡ feeder row k
untouched g k row h = ap (λ (l : List OneState). feeder l k) (one_by_one g k row (omega arith)) ∙ each_past g k k row no_feeder (omega arith)

-- the law behind both calls: done, the call with the step g leaves what they leave
calls_one_by_one : (g : ℕ → OneState → OneState) (v : Answer) (row row' : List OneState) → row' ≡ settled v (each g (length row) row) row → is_done v ≡ true → row' ≡ one_after_another g (length row) row
calls_one_by_one g v row row' after d = all_anew g v row row' after d ∙ sym (one_by_one g (length row) row (omega arith))

-- A row that is predicted is as after the predictions one by one.
pub predicted_one_by_one : {row row' : List OneState} {v : Answer} → PredictedRow row v row' → is_done v ≡ true → row' ≡ one_after_another (λ i s. predicted s) (length row) row
predicted_one_by_one {row} {row'} {v} call = calls_one_by_one (λ i s. predicted s) v row row' call.after

-- A row that is corrected is as after the corrections one by one ..
pub corrected_one_by_one : {row row' : List OneState} {zs : List Float} {c : Corrections} → CorrectedRow row zs c row' → is_done (call_answer c) ≡ true → row' ≡ one_after_another (corrected_by zs) (length row) row
corrected_one_by_one {row} {row'} {zs} {c} call = calls_one_by_one (corrected_by zs) (call_answer c) row row' (leaves call)

-- .. of which the k-th, made on the row as those before it left it, answers what the call over the row goes by for it ..
pub answers_one_by_one : (row : List OneState) (zs : List Float) (k : ℕ) → k < length row → answer_at (one_after_another (corrected_by zs) k row) zs k ≡ answer_at row zs k
answers_one_by_one row zs k h = ap (λ (s : OneState). answer_of (corrected s (reading zs k))) (untouched (corrected_by zs) k row h)

-- .. so that the call says how many of them were accepted, and which was the first that was not.
pub says_one_by_one : {row row' : List OneState} {zs : List Float} {c : Corrections} → CorrectedRow row zs c row'
    → let accepted : ℕ → Bool = λ k. accepted_at (one_after_another (corrected_by zs) k row) zs k in
    c ≡ told_of (length row) (length zs) (how_many accepted (length row)) (first_not accepted (length row))
says_one_by_one {row} {zs = zs} call =
    let accepted : ℕ → Bool = λ k. accepted_at (one_after_another (corrected_by zs) k row) zs k in
    let alike : (k : ℕ) → k < length row → accepted k ≡ accepted_at row zs k = λ k h. ap is_done (answers_one_by_one row zs k h) in
    call.says ∙ cc (how_many_ext accepted (accepted_at row zs) (length row) alike, first_ext accepted (accepted_at row zs) (length row) alike)
