-- `read_operands` meets its contract: each four as it is read. Assumes nothing.
use Rattle.grids.specs.Grid.{cell}
use Rattle.entries.specs.Entries.{numbers}
use Rattle.four_stages.specs.Stages.{lent_in}
use Rattle.four_values.proofs.Values.{four_is, eight_is, sixteen_is}
use Rattle.four_stages.proofs.Stages.{operands_are}
use Rattle.four_stages.proofs.read_operands.Goals as goal

pub returns : goal.returns
unfolding lent_in
returns c =
    let P = cell 4 c.args.p.now in
    let H = cell 4 c.args.h.now in
    operands_are
    (four_is _ (numbers c.args.x.now) c.read.ensures)
    (sixteen_is (four_is _ (P 0) c.read-2.ensures) (four_is _ (P 1) c.read-3.ensures) (four_is _ (P 2) c.read-4.ensures) (four_is _ (P 3) c.read-5.ensures))
    (eight_is (four_is _ (H 0) c.read-6.ensures) (four_is _ (H 1) c.read-7.ensures))
    (four_is _ (numbers c.args.r.now) c.read-8.ensures)
