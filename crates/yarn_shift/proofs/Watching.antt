-- One step more of the shift. Assumes nothing.
use mathlib.Core.Path.{◌≡◌, ap}
use Prim.Native.Nat.{ℕ, suc, ◌+◌}
use native.Mathlib.Omega.{arith}
use Rattle.one_state.specs.declared.OneState.{OneState}
use Rattle.wire.specs.Wire.{Reading}
use Rattle.yarn_shift.specs.declared.step.Step.{Step}
use Rattle.yarn_shift.specs.Readings.{reading_in}
use Rattle.yarn_shift.specs.Step.{advanced, watched}

pub one_step : (n : ℕ) (s : OneState) (g : Reading) (t : Step) → s ≡ watched n → g ≡ reading_in n → t ≡ advanced s g → t.after ≡ watched (n + 1)
unfolding watched
one_step n s g t es eg et = let next : suc n ≡ n + 1 = omega arith in rw (et, es, eg) (ap watched next)
