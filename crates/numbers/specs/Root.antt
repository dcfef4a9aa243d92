-- The square root of a value of a format, rounded to nearest (R10). Definitions only.
-- `IsRoot` says which number it is; `sqrt_of` works it out. That `sqrt_of` is what `IsRoot` says, and that no other number is, is proved in `proofs/Exists.antt`.
use Rattle.std.specs.Prelude.{◌≡◌, true, false, cond, ℕ, zero, suc, ◌+◌, ◌-◌, ◌*◌, ◌/◌, ◌^◌, ◌≤◌, ◌<◌, ℤ, leb, ltb, Float}
use Rattle.std.specs.Float.{nan, inf, fin, Format}
use Rattle.std.specs.Float.Ieee.{prec, low, up, down, size, units}

abbrev pub sq : ℕ → ℕ
sq n = n * n

-- s·2^F is the root of v = a / c, positive and finite, in a format of p digits: s has p digits, v lies within half a unit of s on either side, and where s is the least of them not below it.
-- 2^F is the fraction up F / down F, and the denominators are multiplied out.
pub record IsRoot (p a c s : ℕ) (F : ℤ) : Type 0 where
  pub least : 2 ^ (p - 1) ≤ s
  pub most : s < 2 ^ p
  pub over : sq (2 * s - 1) * sq (up F) * c < 4 * a * sq (down F)
  pub under : 4 * a * sq (down F) < sq (2 * s + 1) * sq (up F) * c
  -- at the least s the gap below is half as wide
  pub edge : s ≡ 2 ^ (p - 1) → sq s * sq (up F) * c ≤ a * sq (down F)

-- the whole part of the root of n, for n below 4^k, a binary digit at a time
unfoldable pub floor_root : ℕ → ℕ → ℕ
floor_root zero n = 0
floor_root (suc k) n = let r = floor_root k (n / 4) in cond (leb (sq (2 * r + 1)) n) (2 * r + 1) (2 * r)

-- the whole number next to the root of n, for n below 4^k: the whole part, or one more where the root is past the half
unfoldable pub near_root : ℕ → ℕ → ℕ
unfolding floor_root
near_root k n = let r = floor_root k n in cond (ltb (4 * n) (sq (2 * r + 1))) r (r + 1)

-- The root of v, for w = v·4^low: in units of the format's smallest value it is the root of w.
-- Of that the format keeps the prec leading digits and drops k.
unfoldable pub root_of : Format → ℕ → Float
unfolding near_root units size
root_of f w =
    let k = (size w + 1) / 2 - prec f in
    units f false (near_root (prec f) (w / sq (2 ^ k))) k

-- the root of any float: zeros and +∞ are their own, and neither a NaN nor anything below zero has one
unfoldable pub sqrt_of : Format → Float → Float
unfolding root_of
sqrt_of f nan = nan
sqrt_of f (inf s) = cond s nan (inf false)
sqrt_of f (fin s zero e) = fin s zero e
sqrt_of f (fin true (suc m) e) = nan
sqrt_of f (fin false (suc m) e) = root_of f (suc m * up e * sq (2 ^ low f) / down e)
