-- A row of feeders behind a pointer: what a correction of it promises. Definitions only.
use Rattle.std.specs.Prelude.{◌≡◌, List, ℕ, length, get_or, Float}
use Rattle.answers.specs.Answers.{settled}
use Rattle.c_codes.specs.Code.{code_of}
use Rattle.one_state.specs.declared.OneState.{OneState}
use Rattle.rows.specs.declared.Corrections.{Corrections}
use Rattle.rows.specs.Rows.{corrections_of, call_answer, accepted_by, first_refused_by, CorrectedRow}
use Rattle.c_feeders.specs.declared.Counts.{Counts}

-- the counts of n feeders: how many were accepted, and the index of the first refused, or n
abbrev pub counts_of : Corrections → ℕ → Counts
counts_of c n = record { accepted = accepted_by c; first_refused = get_or (first_refused_by c) 0 n }

-- what the correction of n feeders says in numbers: the code of the call's own answer, and the counts
pub record Said (c : Corrections) (n code : ℕ) (counts : Counts) : Type 0 where
  pub coded : code ≡ code_of (call_answer c)
  pub counted : counts ≡ counts_of c n

-- feeders_correct of a row by these readings: the code, the row afterwards, and the counts, which a refused call leaves as they were
pub record CorrectedInto (row : List OneState) (zs : List Float) (counts : Counts) (code : ℕ) (row' : List OneState) (counts' : Counts) : Type 0 where
  pub coded : code ≡ code_of (call_answer (corrections_of row zs))
  pub row_after : CorrectedRow row zs (corrections_of row zs) row'
  pub counts_after : counts' ≡ settled (call_answer (corrections_of row zs)) (counts_of (corrections_of row zs) (length row)) counts
