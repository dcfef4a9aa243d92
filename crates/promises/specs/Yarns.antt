-- A run of the one-state record (R21): predictions one after the other, by value. Definitions only.
use Rattle.std.specs.Prelude.{◌≡◌, List, [], ◌∷◌, ℤ}
use Rattle.numbers.specs.Whole.{Whole}
use Rattle.one_state.specs.declared.OneState.{OneState}
use Rattle.one_state.specs.OneState.{predicted}
use Rattle.promises.specs.Formulas.{Column, Matrix, Spreading}
use Rattle.promises.specs.Runs.{State, state}

-- a number as a vector of one, and as a matrix of one
abbrev pub column : ℤ → Column
column z r = z

abbrev pub matrix : ℤ → Matrix
matrix z r c = z

-- x and p of a record, in buffers of one number
abbrev pub state_of : OneState → State
state_of s = state (s.x ∷ []) (s.p ∷ [])

-- A run that takes a record from s to e; the numbers of its a and q at each prediction are listed, the first first.
pub data YarnRun : List Matrix → List Spreading → OneState → OneState → Type 0 where
  -- no call
  end : {s : OneState} → YarnRun [] [] s s
  -- a prediction
  predict : {a q : ℤ} {ms : List Matrix} {ss : List Spreading} {s e : OneState}
      → Whole s.a a → Whole s.q q
      → YarnRun ms ss (predicted s) e
      → YarnRun (matrix a ∷ ms) (record { a = matrix a; q = matrix q } ∷ ss) s e
  -- anything that leaves x and p: a correction that is refused, another model
  left : {ms : List Matrix} {ss : List Spreading} {s t e : OneState}
      → t.x ≡ s.x → t.p ≡ s.p
      → YarnRun ms ss t e
      → YarnRun ms ss s e
