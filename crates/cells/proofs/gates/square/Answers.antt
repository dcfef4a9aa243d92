-- `gates::square` meets its contract: the tests are those of the definition, in its order.
use Rattle.answers.proofs.Asked.{asked}
use Rattle.grids.specs.Cells.{square_answer}
use Rattle.cells.proofs.gates.square.Goals as goal

pub returns : goal.returns
unfolding square_answer
returns c = asked _ c.then_size.ensures c.then_matrix.ensures
