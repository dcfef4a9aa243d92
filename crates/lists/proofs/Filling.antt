-- The loop that reads a buffer: what it has read so far, and what that is at its end. Assumes nothing.
use mathlib.Core.Path.{◌≡◌, refl}
use mathlib.Core.List.{List}
use Prim.Native.Nat.{ℕ, ◌+◌, ◌≤◌, ◌<◌}
use native.Mathlib.Numerals.{add-one}
use native.Mathlib.Omega.{arith}
use lib.ListN.{length, set, length-set}
use lib.Ieee.{Float, binary32, of_bits}
use Rattle.lines.specs.declared.words.Word.{Word}
use Rattle.lines.specs.Word.{word_at}
use Rattle.lists.specs.Lent.{behind, filled, zeros}

-- of len numbers whose words begin at `at`, i are read: they stand in front, and the next word is at `next`
pub record Read (s : List ℕ) (at len : ℕ) (cells : List Float) (next i : ℕ) : Type 0 where
  pub within : i ≤ len
  pub whole : length cells ≡ 304
  pub front : cells ≡ filled s at i zeros
  pub place : next ≡ behind s at i

module _ (s : List ℕ) (at len : ℕ) where
  pub none_read : Read s at len zeros at 0
  unfolding behind filled
  none_read = record { within = omega arith; whole = refl; front = refl; place = refl }

  pub one_read :
      (cells : List Float) (next i : ℕ) (w : Word) (x : Float) →
      i < len → Read s at len cells next i → w ≡ word_at s next → x ≡ of_bits binary32 w.bits →
      Read s at len (set cells i x) w.next (i + 1)
  unfolding behind filled
  one_read cells next i w x h r e f = record {
    within = omega arith;
    whole = simp length-set r.whole;
    front = rw (add-one i, f, e, r.front, r.place);
    place = rw (add-one i, e, r.place);
  }
