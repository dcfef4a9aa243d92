-- A row of feeders, each a record of one state: what becomes of it where all are predicted, and where all are corrected (R33). Definitions only.
use Rattle.std.specs.Prelude.{◌≡◌, Bool, cond, List, [], ◌∷◌, ℕ, zero, suc, ◌+◌, leb, ltb, eqb, length, get_or, Float, Ok, Err}
use Rattle.std.specs.Float.{nan}
use Rattle.answers.specs.declared.Refusal.TheVariants.{Size}
use Rattle.answers.specs.Answers.{is_done, first_of, settled, Answer}
use Rattle.answers.specs.Tests.{buffer_test}
use Rattle.factors.specs.Decomposition.{first_not}
use Rattle.one_state.specs.declared.OneState.{OneState}
use Rattle.one_state.specs.OneState.{fresh, with_xp, with_blind, predicted, corrected, answer_of, handed_back}
use Rattle.rows.specs.declared.Corrections.{Corrections}
use Rattle.rows.specs.declared.Corrections.TheVariants.{All, Part, Refused}
use Rattle.rows.specs.declared.Tally.{Tally}

-- ---- a row

-- what stands past the end of a row; no call looks at it
abbrev pub no_feeder : OneState
no_feeder = fresh nan nan nan nan nan nan

-- the i-th feeder of a row, and the i-th reading
abbrev pub feeder : List OneState → ℕ → OneState
feeder row i = get_or row i no_feeder

abbrev pub reading : List Float → ℕ → Float
reading zs i = get_or zs i nan

-- the first n of a row anew: each becomes what g makes of its index and of it
unfoldable pub each : {A : Type 0} → (ℕ → A → A) → ℕ → List A → List A
each g zero row = row
each g (suc n) [] = []
each g (suc n) (s ∷ row) = g zero s ∷ each (λ i. g (suc i)) n row

-- ---- which calls are refused

-- refusal 1, of size 0: more than twelve records. A row of none is taken.
abbrev pub row_answer : ℕ → Answer
row_answer n = cond (leb n 12) (Ok tt) (Err (Size 0))

-- then refusal 2, of buffer 1: fewer readings than records
abbrev pub readings_answer : ℕ → ℕ → Answer
readings_answer n m = first_of (row_answer n) (buffer_test 1 n m)

-- ---- all predicted

abbrev pub predicted_row : List OneState → List OneState
predicted_row row = each (λ i s. predicted s) (length row) row

-- the promise: the answer v, and the row afterwards
pub record PredictedRow (row : List OneState) (v : Answer) (row' : List OneState) : Type 0 where
  pub answer : v ≡ row_answer (length row)
  pub after : row' ≡ settled v (predicted_row row) row

-- ---- all corrected

-- what becomes of the record s at i by the reading there; where that is refused it has its six numbers as they were, and its count one up
abbrev pub corrected_by : List Float → ℕ → OneState → OneState
corrected_by zs i s = handed_back (corrected s (reading zs i))

-- what the i-th correction answers, and whether it is accepted
abbrev pub answer_at : List OneState → List Float → ℕ → Answer
answer_at row zs i = answer_of (corrected (feeder row i) (reading zs i))

abbrev pub accepted_at : List OneState → List Float → ℕ → Bool
accepted_at row zs i = is_done (answer_at row zs i)

-- the row with all of them corrected
abbrev pub corrected_row : List OneState → List Float → List OneState
corrected_row row zs = each (corrected_by zs) (length row) row

-- for how many indices below n the test holds
unfoldable pub how_many : (ℕ → Bool) → ℕ → ℕ
how_many p zero = zero
how_many p (suc n) = how_many p n + cond (p n) 1 0

-- What the call says of n records and m readings, where so many were accepted and `first` is the index of the first refused, or n where none was.
abbrev pub told_of : ℕ → ℕ → ℕ → ℕ → Corrections
told_of n m accepted first = cond (is_done (readings_answer n m)) (cond (ltb first n) (Part accepted first) (All n)) (Refused (readings_answer n m))

-- of these records by these readings
abbrev pub corrections_of : List OneState → List Float → Corrections
corrections_of row zs = told_of (length row) (length zs) (how_many (accepted_at row zs) (length row)) (first_not (accepted_at row zs) (length row))

-- the promise: what the call says, and the row afterwards
pub record CorrectedRow (row : List OneState) (zs : List Float) (c : Corrections) (row' : List OneState) : Type 0 where
  pub says : c ≡ corrections_of row zs
  pub after : row' ≡ settled (readings_answer (length row) (length zs)) (corrected_row row zs) row

-- ---- what each case of the enum says: the call's own answer, how many were accepted, and the index of the first refused, if any

abbrev pub call_answer : Corrections → Answer
call_answer (All n) = Ok tt
call_answer (Part n i) = Ok tt
call_answer (Refused v) = v

abbrev pub accepted_by : Corrections → ℕ
accepted_by (All n) = n
accepted_by (Part n i) = n
accepted_by (Refused v) = 0

abbrev pub first_refused_by : Corrections → List ℕ
first_refused_by (All n) = []
first_refused_by (Part n i) = i ∷ []
first_refused_by (Refused v) = []

-- ---- on the way: the tally of the feeders so far

abbrev pub none_yet : Tally
none_yet = record { accepted = 0; first = 0 }

-- the tally t of i feeders with one more, which was accepted or not
abbrev pub tallied : Bool → ℕ → Tally → Tally
tallied b i t = cond b (record { accepted = t.accepted + 1; first = cond (eqb t.first i) (i + 1) t.first }) t

-- one turn: of the record s at i by the reading there, after a tally t of those before it, come a new x, p and count, and the tally t'
pub record Turned (s : OneState) (zs : List Float) (i : ℕ) (t : Tally) (x p : Float) (count : ℕ) (t' : Tally) : Type 0 where
  pub feeder_after : with_blind (with_xp s x p) count ≡ corrected_by zs i s
  pub tally_after : t' ≡ tallied (is_done (answer_of (corrected s (reading zs i)))) i t
