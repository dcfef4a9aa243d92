-- One entry, spelt and read: a number below 16^d has one spelling in d hexadecimal digits, and d digits are the spelling of the number that they spell.
-- Digit by digit from the highest on: what was spelt before the digits is the quotient by the power of 16 that stands at them, so that each digit is a quotient's remainder by 16.
-- Assumes nothing.
use mathlib.Core.Path.{◌≡◌, refl, sym, ap, ap₂, ◌∙◌, subst}
use mathlib.Core.Bool.{Bool, true, false, cond, and-eq-true_iff}
use mathlib.Core.List.{List, [], ◌∷◌}
use Prim.Native.Nat.{ℕ, zero, suc, ◌+◌, ◌-◌, ◌*◌, ◌/◌, ◌%◌, ◌^◌, ◌≤◌, ◌<◌}
use native.Mathlib.Nat.{pow-suc, div-one, div-div-eq-div-mul, div-eq_of_lt, div-lt_iff_lt-mul, one-le-pow, one-mul}
use native.Mathlib.Omega.{arith}
use lib.Dec.{ltb, lit<}
use lib.ListN.{length}
use borrow.Author.Tests.{ltb-true, ltb-false, lt-ltb, le-ltb}
use Rattle.lines.specs.Hex.{within, digit_of}
use Rattle.lines.proofs.Digits.{digit_decimal, digit_letter}
use Rattle.card_text.specs.Lines.{ends}
use Rattle.card_text.specs.Values.{are_digits, spelt_from}
use Rattle.card_text.specs.Spelling.{digit_text, entry_text}
use Rattle.card_text.proofs.Entries.{digits_plain}
use Rattle.card_text.proofs.Counts.{from_within}

-- ---- a digit

-- a number below 16 is what its digit is worth ..
digit_worth : (x : ℕ) → x < 16 → digit_of (digit_text x) ≡ x
digit_worth x h = at (ltb x 10) refl
  where
    at : (y : Bool) → ltb x 10 ≡ y → digit_of (cond y (48 + x) (87 + x)) ≡ x
    at true e = let l = ltb-true x 10 e in sym (digit_decimal (48 + x) (omega arith) (omega arith)) ∙ omega arith
    at false e = let l = ltb-false x 10 e in sym (digit_letter (87 + x) (omega arith) (omega arith)) ∙ omega arith

-- .. and a digit is that of what it is worth
digit_of_lem : (b : ℕ) → digit_of b < 16 → b ≡ digit_text (digit_of b)
unfolding digit_of
digit_of_lem b = at (within 48 57 b) (within 97 102 b) (from_within 48 57 b) (from_within 97 102 b)
  where
    at : (p q : Bool) → (p ≡ true → (48 ≤ b) × (b ≤ 57)) → (q ≡ true → (97 ≤ b) × (b ≤ 102)) → cond p (b - 48) (cond q (b - 97 + 10) 16) < 16 → b ≡ digit_text (cond p (b - 48) (cond q (b - 97 + 10) 16))
    at true q f g h = let w = f refl in rw (lt-ltb (b - 48) 10 (omega arith)) (omega arith)
    at false true f g h = let w = g refl in rw (le-ltb (b - 97 + 10) 10 (omega arith)) (omega arith)
    at false false f g h = absurd (omega arith)

-- a power is above zero
some : (d : ℕ) → 0 < 16 ^ d
some d = one-le-pow d 16 (lit< tt)

-- ---- a number and its spelling

-- it has d bytes
pub entry_length : (d e : ℕ) → length (entry_text d e) ≡ d
unfolding entry_text
entry_length zero e = refl
entry_length (suc d) e = ap suc (entry_length d e)

-- and each of its bytes is one
pub digits : (d e : ℕ) → are_digits (entry_text d e) ≡ true
unfolding are_digits entry_text
digits zero e = refl
digits (suc d) e = rw (digit_worth (e / 16 ^ d % 16) (omega arith), lt-ltb (e / 16 ^ d % 16) 16 (omega arith)) (digits d e)

-- so that there is no newline in it
pub entry_plain : (d e : ℕ) → ends (entry_text d e) ≡ false
entry_plain d e = digits_plain (entry_text d e) (digits d e)

-- behind what stands above them the digits spell the number
spelt : (d e : ℕ) → spelt_from (e / 16 ^ d) (entry_text d e) ≡ e
unfolding spelt_from entry_text
spelt zero e = div-one e
spelt (suc d) e = ap (λ (x : ℕ). spelt_from x (entry_text d e)) above ∙ spelt d e
  where
    whole : (x : ℕ) → x / 16 * 16 + x % 16 ≡ x
    whole x = omega arith

    above : e / 16 ^ suc d * 16 + digit_of (digit_text (e / 16 ^ d % 16)) ≡ e / 16 ^ d
    above = rw (digit_worth (e / 16 ^ d % 16) (omega arith), pow-suc 16 d, ← div-div-eq-div-mul e (16 ^ d) 16) (whole (e / 16 ^ d))

-- the spelling spells the number where it is below 16^d
pub entry_spells : (d e : ℕ) → e < 16 ^ d → spelt_from 0 (entry_text d e) ≡ e
entry_spells d e h = ap (λ (x : ℕ). spelt_from x (entry_text d e)) (sym (div-eq_of_lt h)) ∙ spelt d e

-- ---- digits and the number that they spell

-- the quotient of what they spell is what was spelt before them
before : (v : List ℕ) (n : ℕ) → are_digits v ≡ true → spelt_from n v / 16 ^ length v ≡ n
unfolding spelt_from are_digits
before [] n e = div-one n
before (b ∷ t) n e =
    let both = (and-eq-true_iff _ _).0 e in
    let x : digit_of b < 16 = ltb-true _ _ both.0 in
    rw (pow-suc 16 (length t), ← div-div-eq-div-mul (spelt_from (n * 16 + digit_of b) t) (16 ^ length t) 16, before t (n * 16 + digit_of b) both.1) (omega arith)

-- digits are the spelling, in as many digits, of what they spell behind any number
again : (v : List ℕ) (n : ℕ) → are_digits v ≡ true → v ≡ entry_text (length v) (spelt_from n v)
unfolding spelt_from are_digits entry_text
again [] n e = refl
again (b ∷ t) n e =
    let both = (and-eq-true_iff _ _).0 e in
    let x : digit_of b < 16 = ltb-true _ _ both.0 in
    rw (before t (n * 16 + digit_of b) both.1) (ap₂ (λ (c : ℕ) (u : List ℕ). c ∷ u) (digit_of_lem b x ∙ ap digit_text (last (digit_of b) x)) (again t (n * 16 + digit_of b) both.1))
  where
    last : (x : ℕ) → x < 16 → x ≡ (n * 16 + x) % 16
    last x h = omega arith

module _ (d : ℕ) (v : List ℕ) (l : length v ≡ d) (h : are_digits v ≡ true) where
  -- d digits are the spelling of the number that they spell,
  pub entry_text_lem : v ≡ entry_text d (spelt_from 0 v)
  entry_text_lem = again v 0 h ∙ ap (λ (k : ℕ). entry_text k (spelt_from 0 v)) l

  -- and that is below 16^d
  pub entry_small : spelt_from 0 v < 16 ^ d
  entry_small = subst (λ (x : ℕ). spelt_from 0 v < x) (one-mul (16 ^ d)) ((div-lt_iff_lt-mul (some d)).0 low)
    where
      low : spelt_from 0 v / 16 ^ d < 1
      low = rw (← l) (rw (before v 0 h) (lit< tt))
