-- The gate says that the matrix fits; it is filled, and then its diagonal written. Assumes nothing.
use Rattle.std.proofs.Common.{refl, arith, length}
use Rattle.grids.proofs.Diagonals.{comatrix}
use Rattle.grids.proofs.Grids.{run_holds}
use Rattle.grids.proofs.Shapes.{square_fits}
use Rattle.row_major.proofs.fill.make_comatrix.Goals as goal

pub overflow_mul-n : goal.overflow_mul-n
overflow_mul-n c =
    let s = square_fits c.args.n (length c.args.m.now) c.in_ok-square.ensures refl refl in omega arith

pub fill_cells-requires : goal.fill_cells-requires
fill_cells-requires c = (square_fits _ _ c.in_ok-square.ensures refl refl).holds

pub fill_diagonal-requires : goal.fill_diagonal-requires
fill_diagonal-requires c = run_holds _ _ _ _ _ _ c.fill_cells.ensures (square_fits _ _ c.in_ok-square.ensures refl refl).holds

pub returns : goal.returns
returns c = record {
  answer = c.in_ok-square.ensures;
  after = comatrix _ _ _ _ _ _ (square_fits _ _ c.in_ok-square.ensures refl refl).holds c.fill_cells.ensures c.fill_diagonal.ensures;
}
