-- What is written for a NaN is what the library's `to_bits` has for it.
use Rattle.std.proofs.Common.{sym, ◌∙◌}
use lib.Ieee.{binary32}
use Rattle.lines.proofs.Back.{pattern_bits}
use Rattle.lines.proofs.pattern.bits_of.Goals as goal

pub returns : goal.returns
returns c = c.f32_to_bits_with_nan.ensures ∙ sym (pattern_bits binary32 c.args.x)
