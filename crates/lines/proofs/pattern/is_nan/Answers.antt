-- `nan_bits` by its law that says it in one comparison.
use Rattle.std.proofs.Common.{sym}
use lib.Ieee.{binary32}
use lib.Ieee.Bits.{nan_bits_above}
use Rattle.lines.proofs.pattern.is_nan.Goals as goal

pub returns : goal.returns
returns c = sym (nan_bits_above binary32 c.args.b)
