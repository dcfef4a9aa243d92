-- R31: from finite x and P any number of corrections and updates, accepted or refused, whatever their readings, models, sizes and work buffers, leaves x and P finite. One call after the other: each leaves finite
-- whatever number was, wherever in the buffers it stands. Assumes nothing.
use mathlib.Core.Path.{◌≡◌}
use mathlib.Core.Bool.{true}
use Prim.Native.Nat.{ℕ, ◌+◌, ◌*◌}
use lib.Ieee.{Format}
use Rattle.filters.specs.Lent.{Buffers}
use Rattle.filters.specs.Outcomes.{HeldFinite, StaysFinite}
use Rattle.filters.proofs.Results.{update_stays_finite, correct_stays_finite}
use Rattle.one_state.specs.declared.OneState.{OneState}
use Rattle.one_state.specs.OneState.{finite_xp}
use Rattle.one_state.proofs.Finite.{stays_finite}
use Rattle.promises.specs.Runs.{State}
use Rattle.promises.specs.Nights.{Night, end, correct, update, between}
use Rattle.promises.specs.YarnNights as yarns

-- what the buffers begin with, from each number of them
held : (n : ℕ) (b c : Buffers) → StaysFinite b.x c.x × StaysFinite b.P c.P → HeldFinite n b.x b.P → HeldFinite n c.x c.P
held n b c stays h = (λ r hr. stays.0 r (h.0 r hr), λ r c hr hc. stays.1 (r * n + c) (h.1 r c hr hc))

-- The theorem that a user would quote: what was finite in the evening is finite in the morning.
pub finite_through_the_night : {f : Format} {n : ℕ} {s e : State} → Night f n s e → HeldFinite n s.x s.P → HeldFinite n e.x e.P
finite_through_the_night end h = h
finite_through_the_night {f} {n} (correct {k} {m} {b} {c} {v} call rest) h =
    finite_through_the_night rest (held n b c (correct_stays_finite f k m b v c call) h)
finite_through_the_night {f} {n} (update {k} {m} {b} {c} {v} call rest) h =
    finite_through_the_night rest (held n b c (update_stays_finite f k m b v c call) h)
finite_through_the_night (between keeps rest) h = finite_through_the_night rest (keeps h)

-- The same of the one-state record.
pub yarn_finite_through_the_night : {s e : OneState} → yarns.YarnNight s e → finite_xp s ≡ true → finite_xp e ≡ true
yarn_finite_through_the_night yarns.end h = h
yarn_finite_through_the_night {s} (yarns.correct z rest) h = yarn_finite_through_the_night rest (stays_finite s z h)
yarn_finite_through_the_night (yarns.between keeps rest) h = yarn_finite_through_the_night rest (keeps h)
