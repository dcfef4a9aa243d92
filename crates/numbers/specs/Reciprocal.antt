-- The reciprocal of a value of a format. Definitions only.
use Rattle.std.specs.Prelude.{false, pos, Float}
use Rattle.std.specs.Float.{fin, Format}
use Rattle.std.specs.Float.Ieee.{div}

-- the number 1
abbrev pub one : Float
one = fin false 1 (pos 0)

-- the reciprocal (R9): one quotient, rounded once
abbrev pub recip_of : Format → Float → Float
recip_of f v = div f one v
