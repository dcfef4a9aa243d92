-- The gate says that both matrices fit; the core's cells are those of the grid. Assumes nothing.
use Rattle.std.proofs.Common.{refl, arith, length}
use Rattle.grids.proofs.Pairs.{stored_in}
use Rattle.grids.proofs.Shapes.{pair_fits}
use Rattle.sums.proofs.add_inplace_a.Goals as goal

pub overflow_mul-rows : goal.overflow_mul-rows
overflow_mul-rows c =
    let a = c.args in let s = pair_fits a.rows a.cols (length a.a.now) (length a.b.now) c.in_ok-pair.ensures refl refl in omega arith

pub add_cells_a-requires : goal.add_cells_a-requires
add_cells_a-requires c = (pair_fits _ _ _ _ c.in_ok-pair.ensures refl refl).both_hold

pub returns : goal.returns
returns c = stored_in c.in_ok-pair.ensures refl refl c.add_cells_a.ensures
