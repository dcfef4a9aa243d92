-- What a call leaves in a lent buffer, from the branch that its function took: its answer v is w, and `is_done` said b of it. Assumes nothing.
use mathlib.Core.Path.{◌≡◌, sym, ◌∙◌}
use mathlib.Core.Bool.{Bool, true, false}
use mathlib.Core.List.{List}
use lib.Ieee.{Float}
use Rattle.answers.specs.Answers.{is_done, settled, Answer}

module _ {v w : Answer} {b : Bool} where
  -- Where it is done the buffer holds the new numbers.
  pub written_by : {new l : List Float} (old : List Float) → v ≡ w → b ≡ is_done v → b ≡ true → l ≡ new → l ≡ settled v new old
  written_by old e d t q = rw (sym d ∙ t) q

  -- Where it is refused the buffer is as lent.
  pub kept_by : {old : List Float} (new : List Float) → v ≡ w → b ≡ is_done v → b ≡ false → old ≡ settled v new old
  kept_by new e d t = rw (sym d ∙ t)
