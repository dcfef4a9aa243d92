-- What `near_root` and `root_bits` compute, on plain numbers: the step from the whole part of a root to the whole number next to it, and the radicand, which is v with p - 1 zeros after it. Assumes nothing.
use mathlib.Core.Path.{◌≡◌, refl, sym, ap, ◌∙◌}
use Prim.Native.Nat.{ℕ, suc, ◌+◌, ◌-◌, ◌*◌, ◌%◌, ◌^◌, ◌≤◌, ◌<◌}
use native.Mathlib.Nat.{sub-zero, mul_assoc, pow-succ'}
use native.Mathlib.Omega.{arith}
use lib.Ieee.{Format, prec, hid}
use lib.Ieee.Fits.{two, two-le_pos}
use borrow.Author.Tests.{lt-ltb, le-ltb}
use Rattle.numbers.specs.Root.{sq, near_root}
use Rattle.numbers.specs.Pattern.{root_bits}
use Rattle.numbers.proofs.Floor.{Floor, sq_half, near_of_floor, Near, near_is}
use Rattle.numbers.proofs.Exists.{wide, half, wide_least, wide_most}

-- r is the whole part: 4n is below (2r + 1)² exactly where n - r² is at most r
pub near_stay : (p n r : ℕ) → n < 2 ^ (p + p) → Floor n r → n - r * r ≤ r → r ≡ near_root p n
near_stay p n r h k l = sym (near_of_floor p n r h k ∙ rw (lt-ltb (4 * n) (sq (2 * r + 1)) (let e = sq_half r in omega arith)))

pub near_up : (p n r : ℕ) → n < 2 ^ (p + p) → Floor n r → r < n - r * r → r + 1 ≡ near_root p n
near_up p n r h k l = sym (near_of_floor p n r h k ∙ rw (le-ltb (4 * n) (sq (2 * r + 1)) (let e = sq_half r in omega arith)))

-- the radicand by the parity of d: v is m, or twice m
pub wide_even : (p m d : ℕ) → 0 < p → d % 2 ≡ 0 → m * 2 * 2 ^ (p - 1) ≡ wide p m d
wide_even p m d P e = rw (e, sub-zero) (mul_assoc m 2 (2 ^ (p - 1)) ∙ ap (λ (x : ℕ). m * x) (sym (pow-succ' 2 (p - 1)) ∙ ap (λ (x : ℕ). 2 ^ x) (whole p P)))
  where
    whole : (p : ℕ) → 0 < p → suc (p - 1) ≡ p
    whole p P = omega arith

pub wide_odd : (p m d : ℕ) → (d % 2 ≡ 0 → ⊥) → m * 2 ^ (p - 1) ≡ wide p m d
wide_odd p m d e = let o : d % 2 ≡ 1 = omega arith in rw o

-- its root has prec digits
pub near_digits : (f : Format) (m d : ℕ) → hid f ≤ m → m < 2 ^ prec f → Near (prec f) (wide (prec f) m d) (near_root (prec f) (wide (prec f) m d))
near_digits f m d lo hi = near_is (prec f) (wide (prec f) m d) (wide_least (prec f) m d (two-le_pos (prec f) (two f)) lo) (wide_most (prec f) m d hi)

-- `root_bits` by these names
pub bits_is : (f : Format) (m d : ℕ) → root_bits f m d ≡ half d * hid f + near_root (prec f) (wide (prec f) m d)
unfolding root_bits
bits_is f m d = refl
