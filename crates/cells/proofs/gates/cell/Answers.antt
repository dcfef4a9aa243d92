-- `gates::cell` meets its contract: the tests are those of the definition, in its order.
use Rattle.answers.proofs.Asked.{asked}
use Rattle.grids.specs.Cells.{matrix_answer, cell_answer}
use Rattle.cells.proofs.gates.cell.Goals as goal

pub returns : goal.returns
unfolding matrix_answer cell_answer
returns c = asked _ (asked _ c.matrix-held.ensures c.then_place.ensures) c.then_place-2.ensures
