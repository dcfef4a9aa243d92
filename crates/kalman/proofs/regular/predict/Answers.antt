-- The gate says that the buffers hold what they are to hold. Assumes nothing.
use Rattle.std.proofs.Common.{refl}
use Rattle.answers.proofs.Kept.{accepted}
use Rattle.filters.proofs.PredictionFits.{both_fit}
use Rattle.kalman.proofs.regular.predict.Goals as goal

pub predict_cells-requires : goal.predict_cells-requires
predict_cells-requires c =
    let s = both_fit _ _ _ _ _ _ _ (accepted c.in_ok-of_both.ensures refl refl) in let x = s.0 in let P = s.1 in
    (x.least, x.holds_x, x.holds_a, P.holds_p, P.holds_q, x.holds_px, P.holds_temp, P.most)

pub returns : goal.returns
returns c =
    let w = c.predict_cells.ensures in
    record { answer = c.in_ok-of_both.ensures; x_after = w.x; p_after = w.p; predicted_x_after = w.predicted; temp_p_after = w.temp }
