-- What `each_entry` says of an operation, of this one.
use Rattle.std.proofs.Common.{rules}
use Rattle.std.specs.Float.{binary32}
use Rattle.std.specs.Float.Ieee.{mul}
use Rattle.times_transpose.proofs.each.transb_scale_cells.Goals as goal

pub returns : goal.returns
returns c = c.each_entry.ensures (λ y t. mul binary32 t c.args.scale) (λ x y v p. search rules)
