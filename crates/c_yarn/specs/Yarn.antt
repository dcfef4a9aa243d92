-- The one-state filter behind a pointer: what a correction promises. Definitions only.
use Rattle.std.specs.Prelude.{◌≡◌, false, ℕ, eqb, Float}
use Rattle.answers.specs.Answers.{Answer}
use Rattle.c_codes.specs.Code.{code_of}
use Rattle.one_state.specs.declared.OneState.{OneState}
use Rattle.one_state.specs.OneState.{with_blind, corrected, answer_of, handed_back}

-- one_state_correct of the record s by the reading z: the answer v, and the record s' afterwards
pub record CorrectedYarn (s : OneState) (z : Float) (v : Answer) (s' : OneState) : Type 0 where
  pub answer : v ≡ answer_of (corrected s z)
  pub after : s' ≡ handed_back (corrected s z)

-- the same by value, with what the one who writes the record goes by: where the code is not 0, the count is all that is new
pub record Tried (s : OneState) (z : Float) (code : ℕ) (s' : OneState) : Type 0 where
  pub coded : code ≡ code_of (answer_of (corrected s z))
  pub handed : s' ≡ handed_back (corrected s z)
  pub counted : eqb code 0 ≡ false → with_blind s s'.blind ≡ s'
