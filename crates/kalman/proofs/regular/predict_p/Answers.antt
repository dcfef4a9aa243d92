-- The gate says that the buffers hold what they are to hold. Assumes nothing.
use Rattle.std.proofs.Common.{refl}
use Rattle.answers.proofs.Kept.{accepted}
use Rattle.filters.proofs.PredictionFits.{p_fits}
use Rattle.kalman.proofs.regular.predict_p.Goals as goal

pub predict_p_cells-requires : goal.predict_p_cells-requires
predict_p_cells-requires c =
    let s = p_fits _ _ _ _ _ (accepted c.in_ok-of_p.ensures refl refl) in (s.least, s.holds_a, s.holds_p, s.holds_q, s.holds_temp, s.most)

pub returns : goal.returns
returns c = record { answer = c.in_ok-of_p.ensures; p_after = c.predict_p_cells.ensures.p; temp_p_after = c.predict_p_cells.ensures.temp }
