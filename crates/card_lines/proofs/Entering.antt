-- Digits, one more at a time: whether all of them are digits, and the number that they spell. Assumes nothing.
use mathlib.Core.Path.{◌≡◌, refl, sym, ap, ◌∙◌, subst}
use mathlib.Core.Bool.{Bool, true, false, ◌&&◌, and-eq-true_iff, and-true}
use mathlib.Core.List.{List, [], ◌∷◌, ◌++◌}
use Prim.Native.Nat.{ℕ, zero, suc, ◌+◌, ◌*◌, ◌/◌, ◌^◌, ◌≤◌, ◌<◌}
use native.Mathlib.Nat.{not-suc-le-zero, le_of_suc-le-suc, le_trans, pow-suc, pow-le-pow_right}
use native.Mathlib.Numerals.{add-one}
use native.Mathlib.Omega.{arith}
use borrow.Author.Tests.{eq-eqb, ne_eqb, eqb-true, eqb-false, ltb-true, ltb-false}
use lib.Dec.{eqb, ltb, lit<}
use lib.ListN.{length, get_or, take, drop, get_or-eq_default}
use lib.Seq.{take_all}
use Rattle.std.specs.Prelude.{Some, None}
use Rattle.std.proofs.lemmas.List.{take_more}
use Rattle.lines.specs.Hex.{digit_of}
use Rattle.lines.proofs.Digits.{small}
use Rattle.card_text.specs.Values.{are_digits, spelt_from}
use Rattle.card_lines.specs.Front.{field, field_first}

-- ---- whether they are digits

all_but_last : (t : List ℕ) (b : ℕ) → are_digits (t ++ (b ∷ [])) ≡ (are_digits t && ltb (digit_of b) 16)
unfolding are_digits
all_but_last [] b = and-true (ltb (digit_of b) 16)
all_but_last (c ∷ t) b = at (ltb (digit_of c) 16) (all_but_last t b)
  where
    at : (y : Bool) → are_digits (t ++ (b ∷ [])) ≡ (are_digits t && ltb (digit_of b) 16) → (y && are_digits (t ++ (b ∷ []))) ≡ ((y && are_digits t) && ltb (digit_of b) 16)
    at true e = e
    at false e = refl

-- a sum to which a digit adds nothing and any other byte 1 stays 0 exactly where it was 0 and the byte is a digit
none_more : (x d : ℕ) → eqb (x + d / 16) 0 ≡ (eqb x 0 && ltb d 16)
none_more x d = at (eqb x 0) (ltb d 16) refl refl
  where
    at : (y z : Bool) → eqb x 0 ≡ y → ltb d 16 ≡ z → eqb (x + d / 16) 0 ≡ (y && z)
    at true true e h = eq-eqb (x + d / 16) 0 (omega (arith, eqb-true x 0 e, ltb-true d 16 h))
    at true false e h = ne_eqb (x + d / 16) 0 (λ (g : x + d / 16 ≡ 0). let l = ltb-false d 16 h in omega arith)
    at false z e h = ne_eqb (x + d / 16) 0 (λ (g : x + d / 16 ≡ 0). eqb-false x 0 e (omega arith))

pub digits_more : (t : List ℕ) (i x r : ℕ) → i < length t → r ≡ digit_of (get_or t i 0) / 16 → eqb x 0 ≡ are_digits (take i t) → eqb (x + r) 0 ≡ are_digits (take (i + 1) t)
digits_more t i x r h is e =
    rw is
    (none_more x (digit_of (get_or t i 0))
    ∙ rw e (sym (ap are_digits (take_more t i 0 h) ∙ all_but_last (take i t) (get_or t i 0))))

-- all of them are looked at
pub all_looked : (t : List ℕ) (i x : ℕ) → length t ≤ i → eqb x 0 ≡ are_digits (take i t) → eqb x 0 ≡ are_digits t
all_looked t i x h e = e ∙ ap are_digits (take_all i t h)

-- a byte adds at most 1
pub at_most_one : (b r : ℕ) → r ≡ digit_of b / 16 → r ≤ 1
at_most_one b r e = omega (arith, small b)

module _ (d end : ℕ) (t : List ℕ) where
  -- the test of a field that fails
  missing : field d end t ≡ false → None ≡ field_first d end t
  unfolding field_first
  missing h = rw h

  -- there is no byte behind d
  pub too_short : length t < suc d → 1 ≤ end → None ≡ field_first d end t
  unfolding field
  too_short h some =
      missing
      (rw (get_or-eq_default t 0 {n = d} (omega arith), ne_eqb 0 end (λ (e : 0 ≡ end). omega arith))
      (nothing (are_digits (take d t))))
    where
      nothing : (y : Bool) → (y && false) ≡ false
      nothing true = refl
      nothing false = refl

  module _ (x : ℕ) (e : eqb x 0 ≡ are_digits (take d t)) where
    -- d digits, and the byte behind them
    pub a_field : (u : List ℕ) → x ≡ 0 → get_or t d 0 ≡ end → u ≡ drop (suc d) t → Some u ≡ field_first d end t
    unfolding field_first field
    a_field u z b r = rw (sym e, eq-eqb x 0 z, eq-eqb (get_or t d 0) end b, r)

    -- some byte is no digit
    pub no_digit : (x ≡ 0 → ⊥) → None ≡ field_first d end t
    unfolding field
    no_digit z = missing (rw (sym e, ne_eqb x 0 z))

    -- another byte stands behind them
    pub another_end : (get_or t d 0 ≡ end → ⊥) → None ≡ field_first d end t
    unfolding field
    another_end b = missing (rw (ne_eqb (get_or t d 0) end b) (nothing (are_digits (take d t))))
      where
        nothing : (y : Bool) → (y && false) ≡ false
        nothing true = refl
        nothing false = refl

-- ---- the number that they spell

spelt_more : (n : ℕ) (t : List ℕ) (b : ℕ) → spelt_from n (t ++ (b ∷ [])) ≡ spelt_from n t * 16 + digit_of b
unfolding spelt_from
spelt_more n [] b = refl
spelt_more n (c ∷ t) b = spelt_more (n * 16 + digit_of c) t b

pub each : (t : List ℕ) (i : ℕ) → are_digits t ≡ true → i < length t → digit_of (get_or t i 0) < 16
unfolding are_digits
each [] i e h = absurd (not-suc-le-zero h)
each (b ∷ t) zero e h = ltb-true (digit_of b) 16 ((and-eq-true_iff (ltb (digit_of b) 16) (are_digits t)).0 e).0
each (b ∷ t) (suc i) e h = each t i ((and-eq-true_iff (ltb (digit_of b) 16) (are_digits t)).0 e).1 (le_of_suc-le-suc h)

-- what i digits spell stays below 16^i, and so below 16^d where i is at most d
grows : (n d i : ℕ) → n < 16 ^ i → d < 16 → n * 16 + d < 16 ^ (i + 1)
grows n d i h k = rw (add-one i, pow-suc 16 i) (omega arith)

below : (d n i : ℕ) → i ≤ d → n < 16 ^ i → n < 16 ^ d
below d n i h k = le_trans k (pow-le-pow_right {n = 16} (lit< tt) {i = i} {j = d} h)

-- there is room for a digit more
pub entry_room : (d n i : ℕ) → i < d → n < 16 ^ i → n * 16 < 16 ^ d
entry_room d n i h k = below d (n * 16) (i + 1) (omega arith) (omega (arith, grows n 0 i k (lit< tt)))

module _ (t : List ℕ) (good : are_digits t ≡ true) (i : ℕ) (h : i < length t) (n d : ℕ) (is : d ≡ digit_of (get_or t i 0)) (few : n < 16 ^ i) where
  pub entry_small : n * 16 + d < 16 ^ (i + 1)
  entry_small = grows n d i few (subst (λ (x : ℕ). x < 16) (sym is) (each t i good h))

  pub entry_fits : (w : ℕ) → length t ≡ w → n * 16 + d < 16 ^ w
  entry_fits w l = below w (n * 16 + d) (i + 1) (omega arith) entry_small

  pub entry_more : n ≡ spelt_from 0 (take i t) → n * 16 + d ≡ spelt_from 0 (take (i + 1) t)
  entry_more e = rw (e, is) (sym (ap (spelt_from 0) (take_more t i 0 h) ∙ spelt_more 0 (take i t) (get_or t i 0)))
