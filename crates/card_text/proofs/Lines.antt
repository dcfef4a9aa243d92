-- Laws of the lines of a text: by the bytes, from the first on. Assumes nothing.
use mathlib.Core.Path.{◌≡◌, refl, sym, ap, ◌∙◌}
use mathlib.Core.Bool.{Bool, true, false, ◌||◌, cond, true≢false}
use mathlib.Core.List.{List, [], ◌∷◌, ◌++◌}
use Prim.Native.Nat.{ℕ}
use lib.Dec.{eqb}
use borrow.Author.Tests.{eqb-true}
use Rattle.card_text.specs.Lines.{newline, ends, first_line, behind_line}

-- a text whose first line is ended is that line, a newline, and what stands behind
pub cut : (t : List ℕ) → ends t ≡ true → t ≡ first_line t ++ (newline ∷ behind_line t)
unfolding ends first_line behind_line
cut [] e = absurd (true≢false (sym e))
cut (b ∷ t) e = at (eqb b newline) refl e (cut t)
  where
    at : (y : Bool) → eqb b newline ≡ y → (y || ends t) ≡ true → (ends t ≡ true → t ≡ first_line t ++ (newline ∷ behind_line t)) → b ∷ t ≡ cond y [] (b ∷ first_line t) ++ (newline ∷ cond y t (behind_line t))
    at true q h below = ap (λ (x : ℕ). x ∷ t) (eqb-true b newline q)
    at false q h below = ap (λ (x : List ℕ). b ∷ x) (below h)

-- there is no newline in a first line
pub first_plain : (t : List ℕ) → ends (first_line t) ≡ false
unfolding ends first_line
first_plain [] = refl
first_plain (b ∷ t) = at (eqb b newline) refl (first_plain t)
  where
    at : (y : Bool) → eqb b newline ≡ y → ends (first_line t) ≡ false → ends (cond y [] (b ∷ first_line t)) ≡ false
    at true q below = refl
    at false q below = rw q below

-- ---- behind bytes with no newline among them

left : (x y : Bool) → (x || y) ≡ false → x ≡ false
left true y e = e
left false y e = refl

right : (x y : Bool) → (x || y) ≡ false → y ≡ false
right true y e = absurd (true≢false e)
right false y e = e

pub ends-behind : (p t : List ℕ) → ends p ≡ false → ends (p ++ t) ≡ ends t
unfolding ends
ends-behind [] t e = refl
ends-behind (b ∷ p) t e = rw (left (eqb b newline) (ends p) e) (ends-behind p t (right (eqb b newline) (ends p) e))

pub first-behind : (p t : List ℕ) → ends p ≡ false → first_line (p ++ t) ≡ p ++ first_line t
unfolding ends first_line
first-behind [] t e = refl
first-behind (b ∷ p) t e = rw (left (eqb b newline) (ends p) e) (ap (λ (x : List ℕ). b ∷ x) (first-behind p t (right (eqb b newline) (ends p) e)))

pub behind-behind : (p t : List ℕ) → ends p ≡ false → behind_line (p ++ t) ≡ behind_line t
unfolding ends behind_line
behind-behind [] t e = refl
behind-behind (b ∷ p) t e = rw (left (eqb b newline) (ends p) e) (behind-behind p t (right (eqb b newline) (ends p) e))

-- ---- bytes with no newline among them, and then one

nil : (p : List ℕ) → p ++ [] ≡ p
nil [] = refl
nil (b ∷ p) = ap (λ (x : List ℕ). b ∷ x) (nil p)

module _ (p t : List ℕ) (plain : ends p ≡ false) where
  pub ends_at : ends (p ++ (newline ∷ t)) ≡ true
  unfolding ends
  ends_at = ends-behind p (newline ∷ t) plain

  pub first_at : first_line (p ++ (newline ∷ t)) ≡ p
  unfolding first_line
  first_at = first-behind p (newline ∷ t) plain ∙ nil p

  pub behind_at : behind_line (p ++ (newline ∷ t)) ≡ t
  unfolding behind_line
  behind_at = behind-behind p (newline ∷ t) plain
