-- `innovation` meets its contract: its six tests one after the other.
use Rattle.answers.proofs.Asked.{asked}
use Rattle.filters.specs.Lent.{innovation_answer}
use Rattle.observation_gates.proofs.innovation.Goals as goal

pub returns : goal.returns
unfolding innovation_answer
returns c = asked _ (asked _ (asked _ (asked _ (asked _ c.then_size-states.ensures c.then_size-sizes.ensures) c.then_buffer-x.ensures) c.then_matrix-h.ensures) c.then_buffer-z.ensures) c.then_buffer.ensures
