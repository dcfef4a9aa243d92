-- Digits without a branch: a byte is none where it is worth 16; a digit is worth its last four bits, and 9 more where it is a letter. Assumes nothing.
use mathlib.Core.Path.{◌≡◌, refl}
use mathlib.Core.Bool.{Bool, true, false, ◌&&◌, cond}
use Prim.Native.Nat.{ℕ, ◌+◌, ◌-◌, ◌*◌, ◌/◌, ◌%◌, ◌≤◌, ◌<◌}
use native.Mathlib.Omega.{arith}
use borrow.Author.Tests.{leb-true}
use lib.Dec.{leb}
use Rattle.lines.specs.Hex.{digit_of}
use Rattle.lines.proofs.Digits.{digit_decimal, digit_letter, digit_low, digit_between, digit_high}

-- ---- which bytes are none

pub decimal : (b : ℕ) → 48 ≤ b → b ≤ 57 → 0 ≡ digit_of b / 16
decimal b l h = omega (arith, digit_decimal b l h)

pub letter : (b : ℕ) → 97 ≤ b → b ≤ 102 → 0 ≡ digit_of b / 16
letter b l h = omega (arith, digit_letter b l h)

pub low : (b : ℕ) → b < 48 → 1 ≡ digit_of b / 16
low b h = omega (arith, digit_low b h)

pub between : (b : ℕ) → 57 < b → b < 97 → 1 ≡ digit_of b / 16
between b l h = omega (arith, digit_between b l h)

pub high : (b : ℕ) → 102 < b → 1 ≡ digit_of b / 16
high b h = omega (arith, digit_high b h)

-- ---- what a digit is worth: it is `0` to `9` or `a` to `f`

pub worth_is : (b : ℕ) → digit_of b < 16 → b % 16 + b / 64 * 9 ≡ digit_of b
unfolding digit_of
worth_is b h = by (leb 48 b) (leb b 57) (leb 97 b) (leb b 102) (leb-true 48 b) (leb-true b 57) (leb-true 97 b) (leb-true b 102) h
  where
    by : (p q r s : Bool) → (p ≡ true → 48 ≤ b) → (q ≡ true → b ≤ 57) → (r ≡ true → 97 ≤ b) → (s ≡ true → b ≤ 102)
        → cond (p && q) (b - 48) (cond (r && s) (b - 97 + 10) 16) < 16 → b % 16 + b / 64 * 9 ≡ cond (p && q) (b - 48) (cond (r && s) (b - 97 + 10) 16)
    by true true r s ep eq er es h = let l = ep refl in let m = eq refl in omega arith
    by true false true true ep eq er es h = let l = er refl in let m = es refl in omega arith
    by true false true false ep eq er es h = absurd (omega arith)
    by true false false s ep eq er es h = absurd (omega arith)
    by false q true true ep eq er es h = let l = er refl in let m = es refl in omega arith
    by false q true false ep eq er es h = absurd (omega arith)
    by false q false s ep eq er es h = absurd (omega arith)
