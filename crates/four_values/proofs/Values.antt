-- Values by their parts, and the buffers that they are stored in: a value made of entries is stored as their matrix. Assumes nothing.
use mathlib.Core.Path.{◌≡◌, refl, ap, ap₂, ◌∙◌}
use mathlib.Core.List.{List}
use Prim.Native.Nat.{ℕ}
use lib.Ieee.{Float, binary32, add}
use Rattle.side_by_side.specs.declared.Four.{Four}
use Rattle.side_by_side.specs.declared.Eight.{Eight}
use Rattle.side_by_side.specs.declared.Sixteen.{Sixteen}
use Rattle.grids.specs.Grid.{run, grid}
use Rattle.four_values.specs.Values.{of_four, four, square, wide, tall, large, in_four, in_wide, in_large}

-- ---- values

-- equal in each part
fours : {a b c d a' b' c' d' : Float} → a ≡ a' → b ≡ b' → c ≡ c' → d ≡ d' → four (of_four a b c d) ≡ four (of_four a' b' c' d')
fours p q r s = rw (p, q, r, s)

pub four_is : (v : Four) (g : ℕ → Float) → (v.t0 ≡ g 0) × (v.t1 ≡ g 1) × (v.t2 ≡ g 2) × (v.t3 ≡ g 3) → v ≡ four g
four_is v g e = fours e.0 e.1 e.2 e.3

abbrev pub pair : Four → Four → Eight
pair a b = record { f0 = a; f1 = b }

pub eight_is : {a b a' b' : Four} → a ≡ a' → b ≡ b' → pair a b ≡ pair a' b'
eight_is p q = ap₂ pair p q

abbrev pub quadruple : Four → Four → Four → Four → Sixteen
quadruple a b c d = record { f0 = a; f1 = b; f2 = c; f3 = d }

pub sixteen_is : {a b c d a' b' c' d' : Four} → a ≡ a' → b ≡ b' → c ≡ c' → d ≡ d' → quadruple a b c d ≡ quadruple a' b' c' d'
sixteen_is p q r s = rw (p, q, r, s)

-- each with its number of the other on top
abbrev pub sums : Four → Four → Four
sums a b = four (λ k. add binary32 (in_four a k) (in_four b k))

-- ---- in buffers

pub square_put : (e : ℕ → ℕ → Float) (l : List Float) → run 0 4 (in_four (square e)) l ≡ grid 2 2 e l
unfolding run grid
square_put e l = refl

pub four_put : (g : ℕ → Float) (l : List Float) → run 0 4 (in_four (four g)) l ≡ run 0 4 g l
unfolding run
four_put g l = refl

pub wide_put : (e : ℕ → ℕ → Float) (l : List Float) → grid 2 4 (in_wide (wide e)) l ≡ grid 2 4 e l
unfolding run grid
wide_put e l = refl

pub tall_put : (e : ℕ → ℕ → Float) (l : List Float) → grid 2 4 (in_wide (tall e)) l ≡ grid 4 2 e l
unfolding run grid
tall_put e l = refl

pub large_put : (e : ℕ → ℕ → Float) (l : List Float) → grid 4 4 (in_large (large e)) l ≡ grid 4 4 e l
unfolding run grid
large_put e l = refl

-- stored four by four
pub eight_put : (t : Eight) (l m n : List Float) → m ≡ run 0 4 (in_four t.f0) l → n ≡ run 4 4 (in_four t.f1) m → n ≡ grid 2 4 (in_wide t) l
unfolding grid
eight_put t l m n p q = q ∙ ap (run 4 4 (in_four t.f1)) p

pub sixteen_put :
    (t : Sixteen) (l m n o u : List Float) → m ≡ run 0 4 (in_four t.f0) l → n ≡ run 4 4 (in_four t.f1) m → o ≡ run 8 4 (in_four t.f2) n → u ≡ run 12 4 (in_four t.f3) o
    → u ≡ grid 4 4 (in_large t) l
unfolding grid
sixteen_put t l m n o u p q r s =
    s ∙ ap (run 12 4 (in_four t.f3)) (r ∙ ap (run 8 4 (in_four t.f2)) (q ∙ ap (run 4 4 (in_four t.f1)) p))
