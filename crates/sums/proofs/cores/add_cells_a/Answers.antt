-- What `combine` says of an operation, of this one.
use Rattle.std.proofs.Common.{rules}
use Rattle.std.specs.Float.{binary32}
use Rattle.std.specs.Float.Ieee.{add}
use Rattle.sums.proofs.cores.add_cells_a.Goals as goal

pub returns : goal.returns
returns c = c.combine.ensures (λ x y. add binary32 x y) (λ x y r p. search rules)
