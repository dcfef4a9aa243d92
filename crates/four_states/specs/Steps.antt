-- The steps of a prediction of four states on values; each by the general definitions. Definitions only.
use Rattle.std.specs.Float.{binary32}
use Rattle.std.specs.Float.Ieee.{add}
use Rattle.side_by_side.specs.declared.Four.{Four}
use Rattle.side_by_side.specs.declared.Sixteen.{Sixteen}
use Rattle.entries.specs.Entries.{times, times_x}
use Rattle.four_values.specs.Values.{four, large, in_four, in_large}

-- a·x
unfoldable pub all_on : Sixteen → Four → Four
all_on a x = four (times_x binary32 4 (in_large a) (in_four x))

-- a·p
unfoldable pub all_times : Sixteen → Sixteen → Sixteen
all_times a p = large (times binary32 4 (in_large a) (in_large p))

-- t, and q on top
unfoldable pub all_plus : Sixteen → Sixteen → Sixteen
all_plus t q = large (λ r c. add binary32 (in_large t r c) (in_large q r c))
