-- `gates::matrix` meets its contract: the tests are those of the definition, in its order.
use Rattle.answers.proofs.Asked.{asked}
use Rattle.grids.specs.Cells.{matrix_answer}
use Rattle.cells.proofs.gates.matrix.Goals as goal

pub returns : goal.returns
unfolding matrix_answer
returns c = asked _ (asked _ c.then_size.ensures c.then_size-sizes.ensures) c.then_matrix.ensures
