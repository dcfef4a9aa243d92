-- The gate says that both matrices fit. Assumes nothing.
use Rattle.std.proofs.Common.{refl}
use Rattle.answers.proofs.Kept.{accepted}
use Rattle.factors.proofs.InverseCalls.{squares_fit}
use Rattle.inverse.proofs.invert.invert_l_cholesky.Goals as goal

pub invert_cells-requires : goal.invert_cells-requires
invert_cells-requires c = squares_fit _ _ _ (accepted c.in_ok-squares.ensures refl refl)

pub returns : goal.returns
returns c = record { answer = c.in_ok-squares.ensures; after = c.invert_cells.ensures }
