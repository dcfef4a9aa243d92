-- The loop that gives each byte what it is lent with: what is done so far. Assumes nothing.
use mathlib.Core.Path.{◌≡◌, refl}
use mathlib.Core.List.{List}
use Prim.Native.Nat.{ℕ, ◌+◌, ◌≤◌, ◌<◌}
use native.Mathlib.Numerals.{add-one}
use native.Mathlib.Omega.{arith}
use lib.ListN.{length, set, length-set}
use Rattle.card_bytes.specs.Lent.{lent_byte, lent_bytes}

-- ---- bytes that are lent
-- of the bytes l, i are as they are lent
pub record Lending (l bytes : List ℕ) (i : ℕ) : Type 0 where
  pub within : i ≤ length l
  pub whole : length bytes ≡ length l
  pub front : bytes ≡ lent_bytes i l

module _ (l : List ℕ) where
  pub none_lent : Lending l l 0
  unfolding lent_bytes
  none_lent = record { within = omega arith; whole = refl; front = refl }

  pub one_lent : (bytes : List ℕ) (i x : ℕ) → i < length bytes → Lending l bytes i → x ≡ lent_byte i → Lending l (set bytes i x) (i + 1)
  unfolding lent_bytes
  one_lent bytes i x h r e = record {
    within = omega (arith, r.whole);
    whole = simp length-set r.whole;
    front = rw (add-one i, e, r.front);
  }
