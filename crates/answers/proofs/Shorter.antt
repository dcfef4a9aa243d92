-- len is below rows·cols exactly where the quotient of len by cols is below rows. Assumes nothing.
use mathlib.Core.Path.{◌≡◌, refl, sym}
use mathlib.Core.Bool.{Bool, true, false}
use Prim.Native.Nat.{ℕ, ◌*◌, ◌/◌, ◌<◌, ◌≤◌}
use native.Mathlib.Nat.{div-lt_iff_lt-mul, lt_of_not-le, le_of_suc-le-suc, not-le_of_lt, mul-le-mul, mul-zero}
use native.Mathlib.Omega.{arith}
use lib.Dec.{ltb}
use borrow.Author.Tests.{ltb-true, ltb-false, lt-ltb, le-ltb}

-- the product of two sizes that are taken is small
pub few : (m n : ℕ) → m ≤ 16 → n ≤ 16 → m * n ≤ 256
few m n a b = mul-le-mul a b

-- a matrix of no columns has no cells
pub none : (len rows cols : ℕ) → cols ≡ 0 → false ≡ ltb len (rows * cols)
none len rows cols e = rw (e, mul-zero rows) (sym (le-ltb len 0 (omega arith)))

pub by_quotient : (len rows cols : ℕ) → (cols ≡ 0 → ⊥) → ltb (len / cols) rows ≡ ltb len (rows * cols)
by_quotient len rows cols h = go (ltb (len / cols) rows) refl
  where
    some : 0 < cols
    some = above cols h
      where
        above : (n : ℕ) → (n ≡ 0 → ⊥) → 0 < n
        above n h = omega arith

    at_most : {m n : ℕ} → (m < n → ⊥) → n ≤ m
    at_most h = le_of_suc-le-suc (lt_of_not-le h)

    go : (b : Bool) → ltb (len / cols) rows ≡ b → b ≡ ltb len (rows * cols)
    go true e = sym (lt-ltb len (rows * cols) ((div-lt_iff_lt-mul some).0 (ltb-true (len / cols) rows e)))
    go false e = sym (le-ltb len (rows * cols) (at_most (λ (l : len < rows * cols). not-le_of_lt ((div-lt_iff_lt-mul some).1 l) (ltb-false (len / cols) rows e))))
