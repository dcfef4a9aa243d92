-- The digits of an entry: each without a branch, 39 more from ten on, where the letters begin; and the eight of them put one by one. Assumes nothing.
use mathlib.Core.Path.{◌≡◌, refl, sym, ap, ◌∙◌}
use mathlib.Core.Bool.{Bool, true, false, cond}
use mathlib.Core.List.{List, [], ◌∷◌, ◌++◌}
use Prim.Native.Nat.{ℕ, ◌+◌, ◌*◌, ◌/◌, ◌%◌, ◌^◌, ◌<◌}
use native.Mathlib.Nat.{div-one}
use native.Mathlib.Numerals.{add-one, add-two, add-three, add-four, add_five, add_six, add_seven, add_eight}
use native.Mathlib.Omega.{arith}
use borrow.Author.Tests.{ltb-true, ltb-false}
use lib.Dec.{ltb}
use lib.ListN.{set}
use lib.Seq.{sets}
use Rattle.card_text.specs.Spelling.{digit_text, entry_text}

-- the byte of a digit
pub digit_is : (x : ℕ) → x < 16 → 48 + x + (x + 6) / 16 * 39 ≡ digit_text x
digit_is x h = at (ltb x 10) refl
  where
    at : (y : Bool) → ltb x 10 ≡ y → 48 + x + (x + 6) / 16 * 39 ≡ cond y (48 + x) (87 + x)
    at true e = omega (arith, ltb-true x 10 e)
    at false e = omega (arith, ltb-false x 10 e)

-- nine bytes
nine : (l : List ℕ) (p a b c d e f g h i : ℕ)
    → set (set (set (set (set (set (set (set (set l p a) (p + 1) b) (p + 2) c) (p + 3) d) (p + 4) e) (p + 5) f) (p + 6) g) (p + 7) h) (p + 8) i
    ≡ sets l p (a ∷ b ∷ c ∷ d ∷ e ∷ f ∷ g ∷ h ∷ i ∷ [])
nine l p a b c d e f g h i = rw (add-one p, add-two p, add-three p, add-four p, add_five p, add_six p, add_seven p, add_eight p)

-- an entry of eight digits, and the byte behind it
module _ (n end : ℕ) (small : n < 16 ^ 8) where
  pub eight : (a b c d e f g h : ℕ)
      → a ≡ digit_text (n / 0x10000000)
      → b ≡ digit_text (n / 0x1000000 % 16)
      → c ≡ digit_text (n / 0x100000 % 16)
      → d ≡ digit_text (n / 0x10000 % 16)
      → e ≡ digit_text (n / 0x1000 % 16)
      → f ≡ digit_text (n / 0x100 % 16)
      → g ≡ digit_text (n / 0x10 % 16)
      → h ≡ digit_text (n % 16)
      → (l : List ℕ) (p : ℕ)
      → set (set (set (set (set (set (set (set (set l p a) (p + 1) b) (p + 2) c) (p + 3) d) (p + 4) e) (p + 5) f) (p + 6) g) (p + 7) h) (p + 8) end
      ≡ sets l p (entry_text 8 n ++ (end ∷ []))
  unfolding entry_text
  eight a b c d e f g h ea eb ec ed ee ef eg eh l p =
      nine l p a b c d e f g h end
      ∙ rw (ea ∙ ap digit_text first, eb, ec, ed, ee, ef, eg, eh ∙ ap (λ (x : ℕ). digit_text (x % 16)) (sym (div-one n)))
    where
      first : n / 0x10000000 ≡ n / 0x10000000 % 16
      first = omega arith
