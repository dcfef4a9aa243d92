-- When a root is the one that a list has. Definitions only.
use Rattle.std.specs.Prelude.{Bool, ℕ}
use Rattle.std.specs.Float.{binary32}
use Rattle.std.specs.Float.Ieee.{of_bits}
use Rattle.numbers.specs.Root.{sqrt_of}
use Rattle.lines.specs.Pattern.{bits_of, same_bits}

-- the pattern of the root of the number with the pattern b
abbrev pub root_bits : ℕ → ℕ
root_bits b = bits_of (sqrt_of binary32 (of_bits binary32 b))

-- the root of the number with the pattern arg has the pattern want
abbrev pub agrees_of : ℕ → ℕ → Bool
agrees_of arg want = same_bits (root_bits arg) want
