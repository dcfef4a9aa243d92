-- What `each_row` says of an operation, of the one that takes the entry alone.
use Rattle.std.proofs.Common.{rules}
use Rattle.times_vector.proofs.rowvector_cells.Goals as goal

pub returns-else-inner-eq6 : goal.returns-else-inner-eq6
returns-else-inner-eq6 c = c.each_row.ensures (λ y t. t) (λ x y r p. search rules)
