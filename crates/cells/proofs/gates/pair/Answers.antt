-- `gates::pair` meets its contract: the tests are those of the definition, in its order.
use Rattle.answers.proofs.Asked.{asked}
use Rattle.grids.specs.Cells.{matrix_answer, pair_answer}
use Rattle.cells.proofs.gates.pair.Goals as goal

pub returns : goal.returns
unfolding matrix_answer pair_answer
returns c = asked _ c.matrix.ensures c.then_matrix.ensures
