-- A count behind its key, by the bytes that the code looks at: a digit and a newline, or two digits, of which the first is not 0, and a newline. Assumes nothing.
use mathlib.Core.Path.{◌≡◌, refl}
use mathlib.Core.Bool.{Bool, true, false, ◌&&◌, ◌||◌, cond}
use mathlib.Core.List.{List, [], ◌∷◌}
use Prim.Native.Nat.{ℕ, ◌+◌, ◌-◌, ◌*◌, ◌≤◌}
use native.Mathlib.Omega.{arith}
use borrow.Author.Tests.{eqb-true, ne_eqb, le-leb, leb-true}
use lib.Dec.{eqb, leb}
use lib.ListN.{length, get_or, take, drop}
use lib.Seq.{take_all}
use Rattle.std.specs.Prelude.{Option, Some, None}
use Rattle.card_text.specs.Lines.{newline, ends, first_line, behind_line}
use Rattle.card_text.specs.Values.{is_count, number_in}
use Rattle.card_lines.specs.Front.{count_first}

-- a digit is no newline
plain : (b : ℕ) → 48 ≤ b → eqb b newline ≡ false
plain b h = ne_eqb b newline (λ (e : b ≡ newline). omega arith)

-- what is read of a line v, which is ended or not, with the text u behind it
abbrev read : Bool → List ℕ → List ℕ → Option (ℕ × List ℕ)
read e v u = cond (e && is_count v) (Some (number_in v, u)) None

all_of : (n : ℕ) (t : List ℕ) → n ≡ length t → take n t ≡ t
all_of n t e = take_all n t (omega arith)

-- one digit
pub one_digit : (t : List ℕ) (n : ℕ) → n ≡ get_or t 0 0 - 48 → 2 ≤ length t → 48 ≤ get_or t 0 0 → get_or t 0 0 ≤ 57 → get_or t 1 0 ≡ 10
    → Some (n, take (length t - 2) (drop 2 t)) ≡ count_first t
unfolding count_first ends first_line behind_line is_count number_in
one_digit [] n v l h k e = absurd (omega arith)
one_digit (b ∷ []) n v l h k e = absurd (omega arith)
one_digit (b ∷ c ∷ u) n v l h k e = rw (plain b h, e, le-leb 48 b h, le-leb b 57 k, v, all_of (length (b ∷ c ∷ u) - 2) u (omega arith))

-- two digits
pub two_digits : (t : List ℕ) (n m : ℕ) → n ≡ get_or t 0 0 - 48 → m ≡ get_or t 1 0 - 48 → 3 ≤ length t → 49 ≤ get_or t 0 0 → get_or t 0 0 ≤ 57 → 48 ≤ get_or t 1 0 → get_or t 1 0 ≤ 57 → get_or t 2 0 ≡ 10
    → Some (n * 10 + m, take (length t - 3) (drop 3 t)) ≡ count_first t
unfolding count_first ends first_line behind_line is_count number_in
two_digits [] n m v w l h k i j e = absurd (omega arith)
two_digits (b ∷ []) n m v w l h k i j e = absurd (omega arith)
two_digits (b ∷ c ∷ []) n m v w l h k i j e = absurd (omega arith)
two_digits (b ∷ c ∷ d ∷ u) n m v w l h k i j e = rw (plain b (omega arith), plain c i, e, le-leb 49 b h, le-leb b 57 k, le-leb 48 c i, le-leb c 57 j, v, w, all_of (length (b ∷ c ∷ d ∷ u) - 3) u (omega arith))

-- the second byte is no newline, and these are not two digits and one
no_second : (b c : ℕ) (u : List ℕ) → eqb b newline ≡ false → eqb c newline ≡ false
    → (3 ≤ length (b ∷ c ∷ u) → 49 ≤ b → b ≤ 57 → 48 ≤ c → c ≤ 57 → get_or u 0 0 ≡ 10 → ⊥) → None ≡ count_first (b ∷ c ∷ u)
unfolding count_first ends first_line behind_line is_count number_in
no_second b c [] ey ez g = rw (ey, ez)
no_second b c (d ∷ u) ey ez g = rw (ey, ez) (by (eqb d newline) (leb 49 b) (leb b 57) (leb 48 c) (leb c 57) (ends u) refl refl refl refl refl)
  where
    by : (y p q r s e : Bool) → eqb d newline ≡ y → leb 49 b ≡ p → leb b 57 ≡ q → leb 48 c ≡ r → leb c 57 ≡ s
        → None ≡ read (y || e) (b ∷ c ∷ cond y [] (d ∷ first_line u)) (cond y u (behind_line u))
    by true true true true true e ed ep eq er es = absurd (g (omega arith) (leb-true 49 b ep) (leb-true b 57 eq) (leb-true 48 c er) (leb-true c 57 es) (eqb-true d newline ed))
    by true true true true false e ed ep eq er es = rw (ep, eq, er, es)
    by true true true false s e ed ep eq er es = rw (ep, eq, er)
    by true true false r s e ed ep eq er es = rw (ep, eq)
    by true false q r s e ed ep eq er es = rw ep
    by false p q r s true ed ep eq er es = refl
    by false p q r s false ed ep eq er es = refl

-- neither of them
pub neither : (t : List ℕ)
    → (2 ≤ length t → 48 ≤ get_or t 0 0 → get_or t 0 0 ≤ 57 → get_or t 1 0 ≡ 10 → ⊥)
    → (3 ≤ length t → 49 ≤ get_or t 0 0 → get_or t 0 0 ≤ 57 → 48 ≤ get_or t 1 0 → get_or t 1 0 ≤ 57 → get_or t 2 0 ≡ 10 → ⊥)
    → None ≡ count_first t
unfolding count_first ends first_line behind_line is_count number_in
neither [] f g = refl
neither (b ∷ []) f g = by (eqb b newline)
  where
    by : (y : Bool) → None ≡ read (y || false) (cond y [] (b ∷ [])) (cond y [] [])
    by true = refl
    by false = refl
neither (b ∷ c ∷ u) f g = second (eqb b newline) (eqb c newline) (leb 48 b) (leb b 57) refl refl refl refl
  where
    second : (y z p q : Bool) → eqb b newline ≡ y → eqb c newline ≡ z → leb 48 b ≡ p → leb b 57 ≡ q → None ≡ count_first (b ∷ c ∷ u)
    second true z p q ey ez ep eq = rw ey
    second false true true true ey ez ep eq = absurd (f (omega arith) (leb-true 48 b ep) (leb-true b 57 eq) (eqb-true c newline ez))
    second false true true false ey ez ep eq = rw (ey, ez, ep, eq)
    second false true false q ey ez ep eq = rw (ey, ez, ep)
    second false false p q ey ez ep eq = no_second b c u ey ez g
