-- `gates::squares` meets its contract: the tests are those of the definition, in its order.
use Rattle.answers.proofs.Asked.{asked}
use Rattle.factors.specs.Inverted.{squares_answer}
use Rattle.inverse.proofs.gates.squares.Goals as goal

pub returns : goal.returns
unfolding squares_answer
returns c = asked _ (asked _ c.then_size.ensures c.then_matrix-first.ensures) c.then_matrix.ensures
