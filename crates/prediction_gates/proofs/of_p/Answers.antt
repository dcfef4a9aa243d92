-- `of_p` meets its contract: the tests are those of the definition, in its order.
use Rattle.answers.proofs.Asked.{asked}
use Rattle.filters.specs.Predicted.{predict_p_answer}
use Rattle.prediction_gates.proofs.of_p.Goals as goal

pub returns : goal.returns
unfolding predict_p_answer
returns c = asked _ (asked _ (asked _ (asked _ c.then_size-states.ensures c.then_matrix-before_p.ensures) c.then_matrix-before_q.ensures) c.then_matrix-before_temp.ensures) c.then_matrix.ensures
