-- The loop that gives each number of a buffer its pattern: what is done so far, and what that is at its end. Assumes nothing.
use mathlib.Core.Path.{◌≡◌, refl}
use mathlib.Core.List.{List}
use Prim.Native.Nat.{ℕ, ◌+◌, ◌≤◌, ◌<◌, min}
use native.Mathlib.Nat.{le_antisymm}
use native.Mathlib.Numerals.{add-one}
use native.Mathlib.Omega.{arith}
use lib.ListN.{length, set, length-set, length-take}
use lib.Ieee.{Float, binary32, of_bits}
use Rattle.card_cells.specs.Lent.{lent_bits, marked, zeros, Lends}

-- of n numbers of the buffer b, i have their pattern
pub record Marked (b n : ℕ) (cells : List Float) (i : ℕ) : Type 0 where
  pub within : i ≤ n
  pub whole : length cells ≡ 272
  pub front : cells ≡ marked b i zeros

module _ (b n : ℕ) where
  pub none-marked : Marked b n zeros 0
  unfolding marked
  none-marked = record { within = omega arith; whole = refl; front = refl }

  pub one-marked :
      (cells : List Float) (i bits : ℕ) (x : Float) →
      i < n → Marked b n cells i → bits ≡ lent_bits b i → x ≡ of_bits binary32 bits →
      Marked b n (set cells i x) (i + 1)
  unfolding marked
  one-marked cells i bits x h r e f = record {
    within = omega arith;
    whole = simp length-set r.whole;
    front = rw (add-one i, f, e, r.front);
  }

  pub all_marked :
      (len : ℕ) (cells : List Float) (i : ℕ) → n ≡ min len 272 → n ≤ 272 → n ≤ i → Marked b n cells i →
      Lends (record { cells = cells; len = n }) b len
  all_marked len cells i m h k r =
      let e : i ≡ n = le_antisymm r.within k in
      (omega (arith, r.whole), simp length-take (omega (arith, r.whole)), rw (r.front, e, m))
