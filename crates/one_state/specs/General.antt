-- When a general correction at n = m = 1 and the correction of a record agree. Definitions only.
use Rattle.std.specs.Prelude.{◌≡◌, true, false, ◌⊎◌, List, get_or, Float, Ok, Err}
use Rattle.std.specs.Float.{nan}
use Rattle.answers.specs.declared.Refusal.TheVariants.{Pivot, NotFinite}
use Rattle.answers.specs.Answers.{is_done, Answer}
use Rattle.filters.specs.Lent.{Buffers}
use Rattle.one_state.specs.declared.OneState.{OneState}
use Rattle.one_state.specs.declared.Corrected.TheVariants.{Accepted, Refused}
use Rattle.one_state.specs.OneState.{with_xp, with_blind, blinded, corrected}

-- the number in front of a buffer
abbrev pub front : List Float → Float
front l = get_or l 0 nan

-- A general correction at n = m = 1 of the buffers b, which answers v and leaves e, agrees with the correction of the record s by the reading z.
pub record Agrees (s : OneState) (z : Float) (b : Buffers) (v : Answer) (e : Buffers) : Type 0 where
  -- where it is done the record comes back accepted, with the x and p that stand in front of its buffers, a count of 0, and no other member changed
  pub done : is_done v ≡ true → corrected s z ≡ Accepted (with_blind (with_xp s (front e.x) (front e.P)) 0)
  -- where it is refused the record comes back refused with the same answer, its count one up and its six numbers as they were, and so are x and P
  pub refused : is_done v ≡ false → (corrected s z ≡ Refused (blinded s) v) × (e.x ≡ b.x) × (e.P ≡ b.P)
  -- the refusals are 4, of the pivot 0, and 9
  pub only : (v ≡ Ok tt) ⊎ ((v ≡ Err (Pivot 0)) ⊎ (v ≡ Err NotFinite))
