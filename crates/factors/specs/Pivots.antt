-- Which pivot is taken. Definitions only.
use Rattle.std.specs.Prelude.{Bool, ◌&&◌, Float}
use Rattle.std.specs.Float.Ieee.{lt}
use Rattle.std.specs.Float.Ieee.Scale.{finite}
use Rattle.numbers.specs.Sums.{plus0}

-- The one condition (R14): a pivot is taken where it is above zero and finite. So no NaN is, and neither infinity.
unfoldable pub pivot_taken : Float → Bool
pivot_taken s = lt plus0 s && finite s
