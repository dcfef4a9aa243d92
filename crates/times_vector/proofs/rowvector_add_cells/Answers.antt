-- What `each_row` says of an operation, of the sum.
use Rattle.std.proofs.Common.{rules}
use Rattle.std.specs.Float.{binary32}
use Rattle.std.specs.Float.Ieee.{add}
use Rattle.times_vector.proofs.rowvector_add_cells.Goals as goal

pub returns : goal.returns
returns c = c.each_row.ensures (add binary32) (λ x y r p. search rules)
