-- What became of the readings of a shift. Definitions only.
use Rattle.std.specs.Prelude.{◌≡◌, cond, None, Some, ℕ, ◌+◌, Float}
use Rattle.answers.specs.Answers.{is_done}
use Rattle.wire.specs.Wire.{Reading, Outcome}
use Rattle.feeder.specs.declared.Feeder.{Feeder}
use Rattle.shift.specs.declared.step.Step.{Step}
use Rattle.shift.specs.declared.tally.Tally.{Tally}
use Rattle.shift.specs.Readings.{Brings}
use Rattle.feeder.specs.Feeder.{zero32, at_start, tension_of}
use Rattle.shift.specs.Step.{Advanced}

-- no reading yet
abbrev pub none : Tally
none = record { taken = 0; refused = 0; lost = 0; before = zero32; after = zero32 }

-- one reading more that was taken, refused or lost; b and a are the tension's estimates before and after it
abbrev pub one_taken : Tally → Tally
one_taken t = record { taken = t.taken + 1; refused = t.refused; lost = t.lost; before = t.before; after = t.after }

abbrev pub one_refused : Float → Float → Tally → Tally
one_refused b a t = record { taken = t.taken; refused = t.refused + 1; lost = t.lost; before = b; after = a }

abbrev pub one_lost : Tally → Tally
one_lost t = record { taken = t.taken; refused = t.refused; lost = t.lost + 1; before = t.before; after = t.after }

abbrev pub count_of : Outcome → Float → Float → Tally → Tally
count_of None b a t = one_lost t
count_of (Some v) b a t = cond (is_done v) (one_taken t) (one_refused b a t)

-- one step more
abbrev pub counted : Step → Tally → Tally
counted s t = count_of s.outcome (tension_of s.predicted) (tension_of s.after) t

-- how many readings were counted
abbrev pub total : Tally → ℕ
total t = t.taken + t.refused + t.lost

-- a shift of n steps ends with the feeder f and the tally t: each step goes on from the feeder before it with what the wire brings, and is counted once
pub data Shift : ℕ → Feeder → Tally → Type 0 where
  start : Shift 0 at_start none
  next : {n : ℕ} {f : Feeder} {t : Tally} (g : Reading) (s : Step) → Shift n f t → Brings n g → Advanced f g s → Shift (n + 1) s.after (counted s t)

-- the tally of a shift of n steps, which has come to the feeder f: it has every reading, and the last refusal left the tension's estimate as it was
pub record Tallied (n : ℕ) (f : Feeder) (t : Tally) : Type 0 where
  pub shift : Shift n f t
  pub all : total t ≡ n
  pub kept : t.before ≡ t.after

-- the tally of a whole shift of n steps
pub record Worked (n : ℕ) (t : Tally) : Type 0 where
  pub end : Feeder
  pub tallied : Tallied n end t
