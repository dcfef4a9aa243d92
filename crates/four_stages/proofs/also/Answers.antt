-- `also` meets its contract: the test of the four where it was so far, and otherwise as it was. Assumes nothing.
use Rattle.numbers.specs.Finite.{every}
use Rattle.four_stages.proofs.Stages.{both}
use Rattle.four_stages.proofs.also.Goals as goal

pub returns-then-so_far : goal.returns-then-so_far
unfolding every
returns-then-so_far c = both _ _ _ c.if-so_far.true c.four.ensures
