-- A step of the shift: the prediction, and the correction by a reading where one arrives. Definitions only.
use Rattle.std.specs.Prelude.{None, Some, ℕ, zero, suc, Float}
use Rattle.std.specs.Float.{binary32}
use Rattle.std.specs.Float.Ieee.{of_bits}
use Rattle.one_state.specs.declared.OneState.{OneState}
use Rattle.one_state.specs.OneState.{fresh, predicted, corrected, answer_of, handed_back}
use Rattle.wire.specs.Wire.{Reading}
use Rattle.yarn_shift.specs.declared.step.Step.{Step}
use Rattle.yarn_shift.specs.Readings.{reading_in}

-- where the shift starts: x = 35, p = 9, a = 1, q = 0.5, h = 1, r = 4
abbrev pub at_start : OneState
at_start = let of = of_bits binary32 in fresh (of 0x420c0000) (of 0x41100000) (of 0x3f800000) (of 0x3f000000) (of 0x3f800000) (of 0x40800000)

-- s with the reading's noise r
abbrev pub noisy : OneState → Float → OneState
noisy s r = record { x = s.x; p = s.p; a = s.a; q = s.q; h = s.h; r = r; blind = s.blind }

-- a step from s with what the wire brings
abbrev pub advanced : OneState → Reading → Step
advanced s None = record { outcome = None; after = predicted s }
advanced s (Some g) = let c = corrected (noisy (predicted s) g.r) g.z in record { outcome = Some (answer_of c); after = handed_back c }

-- the yarn after n steps
unfoldable pub watched : ℕ → OneState
watched zero = at_start
watched (suc n) = (advanced (watched n) (reading_in n)).after
