-- R23 and R24 are kept, at either width. Assumes nothing.
use lib.Ieee.{Format}
use Rattle.promises.specs.WholeNumbers.{WholeNumbers}
use Rattle.promises.proofs.Exact.{exact_x_lem, exact_p_lem}
use Rattle.promises.proofs.Different.{different_x, different_p}

pub whole_numbers : (f : Format) → WholeNumbers f
whole_numbers f = record { exact_x_lem = exact_x_lem f; exact_p_lem = exact_p_lem f; different_x = different_x f; different_p = different_p f }
