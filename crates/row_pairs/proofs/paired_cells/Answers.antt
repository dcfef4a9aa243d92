-- A turn writes two rows more (`two_more`), and an odd one is left.
use Rattle.std.proofs.Common.{◌≡◌, ◌+◌, ◌-◌, ◌*◌, refl, arith}
use Rattle.grids.proofs.Turns.{no_rows, row_more, all_rows}
use Rattle.row_pairs.proofs.Pairs.{two_more}
use Rattle.row_pairs.proofs.paired_cells.Goals as goal

pub loop-q-init : goal.loop-q-init
loop-q-init c = no_rows

pub loop-q-preserved : goal.loop-q-preserved
loop-q-preserved c =
    let next : 2 * (c.loop-q.q + 1) ≡ 2 * c.loop-q.q + 2 = omega arith in
    rw next (two_more c.loop-q.invariant (omega arith) c.pair_of_rows.ensures)

pub returns-then-rows-eq1 : goal.returns-then-rows-eq1
returns-then-rows-eq1 c =
    let before : 2 * c.loop-q.q ≡ c.args.rows - 1 = omega arith in
    all_rows (row_more (rw before at c.loop-q.invariant) (omega arith) c.last_row.ensures (λ j. refl)) (omega arith)
