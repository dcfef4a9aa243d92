-- The cases of the comparison of bytes, by what the tests and the calls on the way found. Assumes nothing.
use mathlib.Core.Path.{◌≡◌, refl}
use mathlib.Core.List.{List}
use Prim.Native.Nat.{ℕ, ◌+◌}
use native.Mathlib.Numerals.{add-one}
use lib.ListN.{get_or}
use Rattle.lists.specs.declared.seen.Seen.{Seen}
use Rattle.card_bytes.specs.Bytes.{byte_met, bytes_met}

-- ---- all of them
module _ (o : Seen) (t l : List ℕ) where
  pub no_byte : o ≡ bytes_met o t l 0
  unfolding bytes_met
  no_byte = refl

  pub one_byte : (i : ℕ) (more r : Seen) → more ≡ bytes_met o t l i → r ≡ byte_met more t i (get_or l i 0) → r ≡ bytes_met o t l (i + 1)
  unfolding bytes_met
  one_byte i more r e m = rw (add-one i, m, e)
