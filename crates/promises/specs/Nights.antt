-- A night: corrections and updates one after the other, of any number, through what the functions promise (R31). Definitions only.
use Rattle.std.specs.Prelude.{ℕ}
use Rattle.std.specs.Float.{Format}
use Rattle.answers.specs.Answers.{Answer}
use Rattle.filters.specs.Lent.{Buffers}
use Rattle.filters.specs.Corrected.{Updated, Corrected}
use Rattle.filters.specs.Outcomes.{HeldFinite}
use Rattle.promises.specs.Runs.{State, state}

-- A night of a filter with n states that takes x and P from s to e. Each call, accepted or refused, has sizes, a reading, a model and work buffers of its own.
pub data Night (f : Format) (n : ℕ) : State → State → Type 0 where
  -- no call
  end : {s : State} → Night f n s s
  -- a correction, whatever it answers
  correct : {k m : ℕ} {b c : Buffers} {v : Answer} {e : State}
      → Corrected f k m b v c
      → Night f n (state c.x c.P) e
      → Night f n (state b.x b.P) e
  -- an update, whatever it answers
  update : {k m : ℕ} {b c : Buffers} {v : Answer} {e : State}
      → Updated f k m b v c
      → Night f n (state c.x c.P) e
      → Night f n (state b.x b.P) e
  -- anything between them that leaves x and P finite where they were: a prediction whose numbers do not overflow, other buffers lent with finite numbers
  between : {s t e : State}
      → (HeldFinite n s.x s.P → HeldFinite n t.x t.P)
      → Night f n t e
      → Night f n s e
