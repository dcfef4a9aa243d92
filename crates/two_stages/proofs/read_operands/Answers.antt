-- `read_operands` meets its contract: P as it is read, and the other numbers one by one. Assumes nothing.
use mathlib.Core.Path.{ap}
use Rattle.two_stages.specs.Stages.{around, lent_in}
use Rattle.entries.specs.Entries.{numbers}
use Rattle.four_values.proofs.Values.{four_is}
use Rattle.two_stages.proofs.read_operands.Goals as goal

pub returns : goal.returns
unfolding lent_in
returns c =
    let m = c.args in
    ap (around m.x.now m.h.now m.z.now m.r.now) (four_is _ (numbers m.p.now) c.read.ensures)
