-- What it means that the true root of v lies strictly nearer to r than to y (R10): it lies on r's side of the middle between them, (r + y) / 2.
-- Said with whole numbers: 4·v against (r + y)², on the side where y lies. Definitions only.
use Rattle.std.specs.Prelude.{◌⊎◌, true, false, ℕ, ◌+◌, ◌-◌, ◌*◌, ◌<◌, Float}
use Rattle.std.specs.Float.{nan, inf, fin}
use Rattle.std.specs.Float.Ieee.{up, down}
use Rattle.std.specs.Float.Ieee.Positive.{num, den}
use Rattle.numbers.specs.Root.{sq}

-- for the fractions v = a / c, r = b / d and y = g / h: y is below r and (r + y)² < 4·v, or y is above r and 4·v < (r + y)²
abbrev pub OnSide : (a c b d g h : ℕ) → Type 0
OnSide a c b d g h =
    ((g * d < b * h) × (sq (b * h + g * d) * c < 4 * a * sq (d * h)))
    ⊎ ((b * h < g * d) × (4 * a * sq (d * h) < sq (b * h + g * d) * c))

-- For a y below zero, y = −g / h, the middle is (r − g / h) / 2: (r − g / h)² < 4·v, where the difference counts as 0 if g / h is the larger.
-- An infinity is farther from a number than any number is, and a NaN is no number: they are left out.
abbrev pub Nearer : (v r y : Float) → Type 0
Nearer v r nan = Unit {0}
Nearer v r (inf s) = Unit {0}
Nearer v r (fin false m e) = OnSide (num v) (den v) (num r) (den r) (m * up e) (down e)
Nearer v r (fin true m e) = sq (num r * down e - m * up e * den r) * den v < 4 * num v * sq (den r * down e)
