-- A number in whole hundredths. Definitions only.
use Rattle.std.specs.Prelude.{◌≡◌, Bool, true, false, Option, None, Some, ℕ, ◌+◌, ◌-◌, ◌*◌, ◌≤◌, ltb, Float}
use Rattle.std.specs.Float.{nan, inf, fin}
use Rattle.std.specs.Float.Ieee.{up, down}
use Rattle.std.specs.Float.Ieee.Positive.{num, den}

-- a number from +0 up to 131,072, which is left out
abbrev pub shown : Float → Bool
shown nan = false
shown (inf s) = false
shown (fin true m e) = false
shown (fin false m e) = ltb (m * up e) (131072 * down e)

-- No whole number is nearer to 100·v than h, v being num / den: h − 1/2 ≤ 100·v ≤ h + 1/2.
pub record Nearest (v : Float) (h : ℕ) : Type 0 where
  pub over : (2 * h - 1) * den v ≤ 200 * num v
  pub under : 200 * num v ≤ (2 * h + 1) * den v

-- v in hundredths: the nearest where v is shown, and otherwise nothing
abbrev pub InHundredths : Float → Option ℕ → Type 0
InHundredths v (Some h) = (shown v ≡ true) × Nearest v h
InHundredths v None = shown v ≡ false
