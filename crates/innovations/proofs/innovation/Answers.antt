-- The gate says that the buffers hold what they are to hold. Assumes nothing.
use Rattle.std.proofs.Common.{refl}
use Rattle.answers.proofs.Kept.{accepted}
use Rattle.filters.proofs.CorrectionFits.{innovation_fits}
use Rattle.innovations.proofs.innovation.Goals as goal

pub innovate_cells-requires : goal.innovate_cells-requires
innovate_cells-requires c =
    let s = innovation_fits _ _ _ _ _ _ (accepted c.in_ok-innovation.ensures refl refl) in (s.states, s.x_holds, s.h_holds, s.z_holds, s.y_holds)
