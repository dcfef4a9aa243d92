-- A night of the one-state record: corrections by value, one after the other (R21, R31). Definitions only.
use Rattle.std.specs.Prelude.{◌≡◌, true, Float}
use Rattle.one_state.specs.declared.OneState.{OneState}
use Rattle.one_state.specs.OneState.{finite_xp, corrected, handed_back}

-- a night that takes a record from s to e
pub data YarnNight : OneState → OneState → Type 0 where
  -- no call
  end : {s : OneState} → YarnNight s s
  -- a correction by the reading z, whatever it answers
  correct : {s e : OneState} (z : Float)
      → YarnNight (handed_back (corrected s z)) e
      → YarnNight s e
  -- anything between them that leaves x and p finite where they were: a prediction whose numbers do not overflow, another model
  between : {s t e : OneState}
      → (finite_xp s ≡ true → finite_xp t ≡ true)
      → YarnNight t e
      → YarnNight s e
