-- The gate says that the matrix fits. Assumes nothing.
use Rattle.std.proofs.Common.{refl}
use Rattle.grids.proofs.Shapes.{square_fits}
use Rattle.row_major.proofs.fill.set_diagonal_to_scalar.Goals as goal

pub fill_diagonal-requires : goal.fill_diagonal-requires
fill_diagonal-requires c = (square_fits _ _ c.in_ok-square.ensures refl refl).holds
