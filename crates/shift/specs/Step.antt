-- A step of the shift: the prediction, and the correction by a reading where one arrives. Definitions only.
use Rattle.std.specs.Prelude.{◌≡◌, Bool, false, None, Some, Float}
use Rattle.answers.specs.Answers.{is_done, Answer}
use Rattle.feeder.specs.declared.Feeder.{Feeder}
use Rattle.feeder.specs.Feeder.{forecast, Took}
use Rattle.wire.specs.Wire.{Reading, Outcome}
use Rattle.shift.specs.declared.step.Step.{Step}

-- the reading was taken
abbrev pub taken : Outcome → Bool
taken None = false
taken (Some v) = is_done v

-- a reading that arrived was answered by the correction
pub record Heard (z r : Float) (s : Step) : Type 0 where
  pub answer : Answer
  pub told : s.outcome ≡ Some answer
  pub took : Took s.predicted z r answer s.after

-- what became of the reading: one that arrives is corrected by once, and where none does the feeder is as predicted
abbrev pub Follows : Reading → Step → Type 0
Follows (Some g) s = Heard g.z g.r s
Follows None s = (s.outcome ≡ None) × (s.after ≡ s.predicted)

-- a reading that was not taken leaves the feeder as predicted
abbrev pub Kept : Step → Type 0
Kept s = taken s.outcome ≡ false → s.after ≡ s.predicted

-- a step from the feeder f with the reading g
pub record Advanced (f : Feeder) (g : Reading) (s : Step) : Type 0 where
  pub predicted : s.predicted ≡ forecast f
  pub follows : Follows g s
  pub kept : Kept s
