-- How long a yarn has been blind (R32): the calls of a record one after the other, and what its count says of them. Definitions only.
use Rattle.std.specs.Prelude.{◌≡◌, Bool, true, cond, not, ◌&&◌, List, [], ◌∷◌, ℕ, suc, Float}
use Rattle.answers.specs.Answers.{is_done, Answer}
use Rattle.one_state.specs.declared.OneState.{OneState}
use Rattle.one_state.specs.OneState.{predicted, corrected, answer_of, handed_back}

-- A shift that took a record from s to e; what its corrections answered is listed, the latest first.
pub data Shift : OneState → List Answer → OneState → Type 0 where
  -- no call yet
  start : {s : OneState} → Shift s [] s
  -- a prediction
  predict : {s e : OneState} {vs : List Answer} → Shift s vs e → Shift s vs (predicted e)
  -- a correction by the reading z, whatever it answers
  correct : {s e : OneState} {vs : List Answer} (z : Float) → Shift s vs e → Shift s (answer_of (corrected e z) ∷ vs) (handed_back (corrected e z))
  -- anything that leaves the count: another model, x and p set anew
  between : {s e t : OneState} {vs : List Answer} → t.blind ≡ e.blind → Shift s vs e → Shift s vs t

-- how many corrections were refused in a row at the end, counted on from c where none of them was accepted
unfoldable pub in_a_row : ℕ → List Answer → ℕ
in_a_row c [] = c
in_a_row c (v ∷ vs) = cond (is_done v) 0 (suc (in_a_row c vs))

-- every one was refused
unfoldable pub all_refused : List Answer → Bool
all_refused [] = true
all_refused (v ∷ vs) = not (is_done v) && all_refused vs

-- the last one was accepted, or there was none yet
abbrev pub sees : List Answer → Bool
sees [] = true
sees (v ∷ vs) = is_done v
