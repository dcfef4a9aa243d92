-- "0 differ" means that every byte is the one that must stand there: the text in front and, behind it, what was lent. Assumes nothing.
use mathlib.Core.Path.{◌≡◌, subst⁻¹, ◌∙◌, sym}
use mathlib.Core.Logic.{⊎_elim}
use mathlib.Core.List.{List, []}
use Prim.Native.Nat.{ℕ, zero, suc, ◌≤◌, ◌<◌}
use native.Mathlib.Nat.{not-suc-le-zero, le_of_suc-le-suc, eq-or-lt_of_le}
use native.Mathlib.Omega.{arith}
use lib.Dec.{eqb}
use lib.ListN.{length, get_or, take}
use lib.Seq.{ext_get_or, get_or-take, length-take-le}
use borrow.Author.Tests.{eqb-true, lt-ltb, le-ltb}
use Rattle.lists.specs.declared.seen.Seen.{Seen}
use Rattle.lists.proofs.Agreed.{met_agreed}
use Rattle.card_bytes.specs.Lent.{lent_byte}
use Rattle.card_bytes.specs.Bytes.{wanted_byte, byte_met, bytes_met}
use Rattle.card_bytes.specs.Written.{number_met, written_met, Written, Left}

-- ---- one
pub byte_agreed : (o : Seen) (t : List ℕ) (i x : ℕ) → (byte_met o t i x).differ ≡ 0 → (o.differ ≡ 0) × (wanted_byte t i ≡ x)
unfolding byte_met
byte_agreed o t i x e = let m = met_agreed (eqb (wanted_byte t i) x) o _ 103 i _ _ e in (m.0, eqb-true _ _ m.1)

pub number_agreed : (o : Seen) (b want found : ℕ) → (number_met o b want found).differ ≡ 0 → (o.differ ≡ 0) × (want ≡ found)
unfolding number_met
number_agreed o b want found e = let m = met_agreed (eqb want found) o _ b 0 _ _ e in (m.0, eqb-true _ _ m.1)

-- ---- all bytes
module _ (o : Seen) (t l : List ℕ) where
  -- nothing differed before the first
  pub bytes_began : (n : ℕ) → (bytes_met o t l n).differ ≡ 0 → o.differ ≡ 0
  unfolding bytes_met
  bytes_began zero e = e
  bytes_began (suc n) e = bytes_began n (byte_agreed (bytes_met o t l n) t n _ e).0

  pub bytes_agreed : (n : ℕ) → (bytes_met o t l n).differ ≡ 0 → (i : ℕ) → i < n → wanted_byte t i ≡ get_or l i 0
  unfolding bytes_met
  bytes_agreed zero e i h = absurd (not-suc-le-zero h)
  bytes_agreed (suc n) e i h =
      let last = byte_agreed (bytes_met o t l n) t n (get_or l n 0) e in
      ⊎_elim (λ q. subst⁻¹ (λ (k : ℕ). wanted_byte t k ≡ get_or l k 0) q last.1) (λ below. bytes_agreed n last.0 i below) (eq-or-lt_of_le (le_of_suc-le-suc h))

  -- the text stands in front
  pub text_in_front : length t ≤ length l → (bytes_met o t l (length l)).differ ≡ 0 → take (length t) l ≡ t
  text_in_front h e = ext_get_or 0 (take (length t) l) t (length-take-le (length t) l h) at
    where
      at : (i : ℕ) → i < length (take (length t) l) → get_or (take (length t) l) i 0 ≡ get_or t i 0
      at i below =
          let short : i < length t = rw (length-take-le (length t) l h) at below in
          get_or-take (length t) l i 0 short ∙ sym (bytes_agreed (length l) e i (omega arith)) ∙ rw (lt-ltb i (length t) short)

  -- and what lies past it is as it was lent
  pub past_as_lent : (bytes_met o t l (length l)).differ ≡ 0 → (i : ℕ) → length t ≤ i → i < length l → get_or l i 0 ≡ lent_byte i
  past_as_lent e i h below = sym (bytes_agreed (length l) e i below) ∙ rw (le-ltb i (length t) h)

-- ---- what is said, and all of them
module _ (o : Seen) (t : List ℕ) (code len : ℕ) (l : List ℕ) (none : (written_met o t code len l).differ ≡ 0) where
  pub written_agreed : length t ≤ length l → Written t code len l
  unfolding written_met
  written_agreed h =
      let e = rw (le-ltb (length l) (length t) h) at none in
      let second = number_agreed (number_met o 104 0 code) 105 (length t) len (bytes_began _ t l (length l) e) in
      record {
        done = (number_agreed o 104 0 code second.0).1;
        long = second.1;
        front = text_in_front _ t l h e;
        past = past_as_lent _ t l e;
      }

  pub left_agreed : length l < length t → Left code l
  unfolding written_met
  left_agreed h =
      let e = rw (lt-ltb (length l) (length t) h) at none in
      record {
        refused = (number_agreed o 104 204 code (bytes_began _ [] l (length l) e)).1;
        all = λ i below. past_as_lent _ [] l e i (omega arith) below;
      }
