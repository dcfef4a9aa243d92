-- What the wire from a feeder brings, and what becomes of it. Definitions only.
use Rattle.std.specs.Prelude.{Option}
use Rattle.answers.specs.Answers.{Answer}
use Rattle.wire.specs.declared.Measured.{Measured}

-- what the wire brings in a step: a reading, or nothing
abbrev pub Reading : Type 0
Reading = Option Measured

-- what became of a step's reading: what the correction answered, or nothing where none arrived
abbrev pub Outcome : Type 0
Outcome = Option Answer
