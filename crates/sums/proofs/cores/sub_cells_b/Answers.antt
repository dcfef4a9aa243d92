-- What `combine` says of an operation, of this one.
use Rattle.std.proofs.Common.{rules}
use Rattle.std.specs.Float.{binary32}
use Rattle.std.specs.Float.Ieee.{sub}
use Rattle.sums.proofs.cores.sub_cells_b.Goals as goal

pub returns : goal.returns
returns c = c.combine.ensures (λ x y. sub binary32 y x) (λ x y r p. search rules)
