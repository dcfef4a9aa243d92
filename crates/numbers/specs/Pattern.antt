-- The bit pattern of a root. Definitions only.
use Rattle.std.specs.Prelude.{ℕ, ◌+◌, ◌-◌, ◌*◌, ◌/◌, ◌%◌, ◌^◌}
use Rattle.std.specs.Float.{Format}
use Rattle.std.specs.Float.Ieee.{prec, hid}
use Rattle.numbers.specs.Root.{near_root}

-- the bit pattern of the root of m·2^(prec + d)·4^−low, for an m of prec digits: the exponent's field, then the digits below the leading one
unfoldable pub root_bits : Format → ℕ → ℕ → ℕ
unfolding near_root
root_bits f m d = (d + 1) / 2 * hid f + near_root (prec f) (m * 2 ^ (prec f - d % 2))
