-- Each turn writes the right halves of two rows; then the rows above them are written whole.
use Rattle.std.proofs.Common.{◌+◌, ◌-◌, ◌*◌, arith}
use Rattle.grids.proofs.Grids.{row_in}
use Rattle.right_halves.proofs.HalfRows.{two_halved, all_halved}
use Rattle.right_halves.proofs.upper_cells.Goals as goal

pub pair_of_halves-requires : goal.pair_of_halves-requires
pair_of_halves-requires c =
    let m = c.args in
    let lower = m.cols - 2 * (c.loop-pair.pair + 1) + 1 in
    omega (arith, row_in m.cols m.inner lower (omega arith), row_in m.cols m.cols lower (omega arith))

pub loop-pair-preserved : goal.loop-pair-preserved
loop-pair-preserved c = two_halved c.requires.4 c.loop-pair.invariant (omega arith) (omega arith) c.pair_of_halves.ensures

pub returns-clause-upper : goal.returns-clause-upper
returns-clause-upper c = (all_halved c.requires.4 c.loop-pair.invariant (omega arith) c.paired_cells.ensures).0

pub returns-clause-past : goal.returns-clause-past
returns-clause-past c = (all_halved c.requires.4 c.loop-pair.invariant (omega arith) c.paired_cells.ensures).2
