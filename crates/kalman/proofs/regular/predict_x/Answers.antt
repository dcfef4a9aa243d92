-- The gate says that the buffers hold what they are to hold. Assumes nothing.
use Rattle.std.proofs.Common.{refl}
use Rattle.answers.proofs.Kept.{accepted}
use Rattle.filters.proofs.PredictionFits.{x_fits}
use Rattle.kalman.proofs.regular.predict_x.Goals as goal

pub predict_x_cells-requires : goal.predict_x_cells-requires
predict_x_cells-requires c =
    let s = x_fits _ _ _ _ (accepted c.in_ok-of_x.ensures refl refl) in (s.least, s.holds_x, s.holds_a, s.holds_px)

pub returns : goal.returns
returns c = record { answer = c.in_ok-of_x.ensures; x_after = c.predict_x_cells.ensures.x; predicted_x_after = c.predict_x_cells.ensures.predicted }
