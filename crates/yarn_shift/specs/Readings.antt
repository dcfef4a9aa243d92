-- What the wire brings in each step of the shift. Definitions only.
use Rattle.std.specs.Prelude.{false, None, Some, List, [], ◌∷◌, ℕ, get_or, Float}
use Rattle.std.specs.Float.{nan, inf, binary32}
use Rattle.std.specs.Float.Ieee.{of_bits}
use Rattle.wire.specs.Wire.{Reading}

-- the noise of the sensor
abbrev four : Float
four = of_bits binary32 0x40800000

-- a reading that arrives: the tension z, and its noise r
abbrev pub arrived : Float → Float → Reading
arrived z r = Some (record { z = z; r = r })

-- tensions of 36.8, 33.1 and 35.9 cN; four in which nothing of use comes; and 38.3, 35.1 and 37
abbrev pub readings : List Reading
readings = arrived (of_bits binary32 0x42133333) four ∷ arrived (of_bits binary32 0x42046666) four ∷ arrived (of_bits binary32 0x420f999a) four ∷ arrived nan four ∷ arrived (of_bits binary32 0x4215999a) nan ∷ None ∷ arrived (inf false) four ∷ arrived (of_bits binary32 0x42193333) four ∷ arrived (of_bits binary32 0x420c6666) four ∷ arrived (of_bits binary32 0x42140000) four ∷ []

-- what it brings in step n, counted from 0; nothing after the last
abbrev pub reading_in : ℕ → Reading
reading_in n = get_or readings n None
