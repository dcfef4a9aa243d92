-- `of_x` meets its contract: the tests are those of the definition, in its order.
use Rattle.answers.proofs.Asked.{asked}
use Rattle.filters.specs.Predicted.{predict_x_answer}
use Rattle.prediction_gates.proofs.of_x.Goals as goal

pub returns : goal.returns
unfolding predict_x_answer
returns c = asked _ (asked _ (asked _ c.then_size-states.ensures c.then_buffer-before_a.ensures) c.then_matrix-before_px.ensures) c.then_buffer.ensures
