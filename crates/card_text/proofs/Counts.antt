-- Counts, spelt and read: a number below 100 has one spelling that is a count, and a count is the spelling of the number that it says.
-- By one digit and by two; the rest is arithmetic with quotients and remainders by 10. Assumes nothing.
use mathlib.Core.Path.{◌≡◌, refl, sym, ap, ◌∙◌, ap₂}
use mathlib.Core.Logic.{◌↔◌}
use mathlib.Core.Bool.{Bool, true, false, cond, true≢false, and-eq-true_iff}
use mathlib.Core.List.{List, [], ◌∷◌}
use Prim.Native.Nat.{ℕ, ◌+◌, ◌-◌, ◌*◌, ◌/◌, ◌%◌, ◌≤◌, ◌<◌}
use native.Mathlib.Omega.{arith}
use lib.Dec.{ltb}
use borrow.Author.Tests.{leb-true, le-leb, ltb-true, ltb-false, lt-ltb, le-ltb, ne_eqb}
use Rattle.lines.specs.Hex.{within}
use Rattle.card_text.specs.Lines.{newline, ends}
use Rattle.card_text.specs.Values.{is_count, number_in}
use Rattle.card_text.specs.Spelling.{count_text}

-- a byte from lo to hi, as a test and in numbers
is_within : (lo hi b : ℕ) → lo ≤ b → b ≤ hi → within lo hi b ≡ true
is_within lo hi b l h = rw (le-leb lo b l, le-leb b hi h)

pub from_within : (lo hi b : ℕ) → within lo hi b ≡ true → (lo ≤ b) × (b ≤ hi)
from_within lo hi b e = let both = (and-eq-true_iff _ _).0 e in (leb-true _ _ both.0, leb-true _ _ both.1)

-- a byte from 48 on is no newline
plain : (b : ℕ) → 48 ≤ b → (b ≡ newline → ⊥)
plain b h e = omega arith

-- ---- a number and its spelling

module _ (n : ℕ) where
  -- there is no newline in the spelling of a number
  pub count_plain : ends (count_text n) ≡ false
  unfolding ends count_text
  count_plain = at (ltb n 10)
    where
      at : (y : Bool) → ends (cond y ((48 + n) ∷ []) ((48 + n / 10) ∷ (48 + n % 10) ∷ [])) ≡ false
      at true = rw (ne_eqb (48 + n) newline (plain (48 + n) (omega arith)))
      at false = rw (ne_eqb (48 + n / 10) newline (plain (48 + n / 10) (omega arith)), ne_eqb (48 + n % 10) newline (plain (48 + n % 10) (omega arith)))

  -- the spelling of a number below 100 is a count ..
  pub count_is : n < 100 → is_count (count_text n) ≡ true
  unfolding is_count count_text
  count_is h = at (ltb n 10) refl
    where
      at : (y : Bool) → ltb n 10 ≡ y → is_count (cond y ((48 + n) ∷ []) ((48 + n / 10) ∷ (48 + n % 10) ∷ [])) ≡ true
      at true e = let l = ltb-true n 10 e in is_within _ _ (48 + n) (omega arith) (omega arith)
      at false e = let l = ltb-false n 10 e in (and-eq-true_iff _ _).1 (is_within _ _ (48 + n / 10) (omega arith) (omega arith), is_within _ _ (48 + n % 10) (omega arith) (omega arith))

  -- .. that says the number
  pub count_says : n < 100 → number_in (count_text n) ≡ n
  unfolding number_in count_text
  count_says h = at (ltb n 10) refl
    where
      at : (y : Bool) → ltb n 10 ≡ y → number_in (cond y ((48 + n) ∷ []) ((48 + n / 10) ∷ (48 + n % 10) ∷ [])) ≡ n
      at true e = omega arith
      at false e = omega arith

-- ---- a count and its number

one_digit : (b : ℕ) → 48 ≤ b → b ≤ 57 → (b ∷ []) ≡ count_text (b - 48)
unfolding count_text
one_digit b l h = rw (lt-ltb (b - 48) 10 (omega arith)) (ap (λ (x : ℕ). x ∷ []) (same b l))
  where
    same : (b : ℕ) → 48 ≤ b → b ≡ 48 + (b - 48)
    same b l = omega arith

two_digits : (b c : ℕ) → 49 ≤ b → b ≤ 57 → 48 ≤ c → c ≤ 57 → (b ∷ c ∷ []) ≡ count_text ((b - 48) * 10 + (c - 48))
unfolding count_text
two_digits b c l h k m =
    let first : b ≡ 48 + ((b - 48) * 10 + (c - 48)) / 10 = omega arith in
    let last : c ≡ 48 + ((b - 48) * 10 + (c - 48)) % 10 = omega arith in
    rw (le-ltb ((b - 48) * 10 + (c - 48)) 10 (omega arith)) (ap₂ (λ (x y : ℕ). x ∷ y ∷ []) first last)

-- a count is the spelling of the number that it says ..
pub count_text_lem : (v : List ℕ) → is_count v ≡ true → v ≡ count_text (number_in v)
unfolding is_count number_in
count_text_lem [] e = absurd (true≢false (sym e))
count_text_lem (b ∷ []) e = let w = from_within _ _ b e in one_digit b (omega arith) (omega arith)
count_text_lem (b ∷ c ∷ []) e =
    let both = (and-eq-true_iff _ _).0 e in
    let w = from_within _ _ b both.0 in
    let z = from_within _ _ c both.1 in
    two_digits b c (omega arith) (omega arith) (omega arith) (omega arith)
count_text_lem (b ∷ c ∷ x ∷ t) e = absurd (true≢false (sym e))

-- .. which is below 100
pub count_small : (v : List ℕ) → is_count v ≡ true → number_in v < 100
unfolding is_count number_in
count_small [] e = omega arith
count_small (b ∷ []) e = let w = from_within _ _ b e in omega arith
count_small (b ∷ c ∷ []) e =
    let both = (and-eq-true_iff _ _).0 e in
    let w = from_within _ _ b both.0 in
    let z = from_within _ _ c both.1 in
    omega arith
count_small (b ∷ c ∷ x ∷ t) e = absurd (true≢false (sym e))

-- A text is a count exactly where it is the spelling of a number below 100.
pub count_exactly : (v : List ℕ) → (is_count v ≡ true) ↔ ((n : ℕ) × (n < 100) × (v ≡ count_text n))
count_exactly v = (λ e. (number_in v, count_small v e, count_text_lem v e), λ f. ap is_count f.2 ∙ count_is f.0 f.1)
