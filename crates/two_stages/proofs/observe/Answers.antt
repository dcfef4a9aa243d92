-- `observe` meets its contract: S as `two_more` leaves it, and the other numbers as they are computed. Assumes nothing.
use mathlib.Core.Path.{ap}
use Rattle.two_stages.specs.Stages.{beside, seen}
use Rattle.two_stages.proofs.observe.Goals as goal

pub returns : goal.returns
unfolding seen
returns c = ap (beside c.args.b) c.two_more-s.ensures
