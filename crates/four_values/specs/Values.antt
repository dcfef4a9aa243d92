-- Matrices of two by two, two by four, four by two and four by four as values, from their entries and back. Definitions only.
use Rattle.std.specs.Prelude.{ℕ, zero, suc, Float}
use Rattle.side_by_side.specs.declared.Four.{Four}
use Rattle.side_by_side.specs.declared.Eight.{Eight}
use Rattle.side_by_side.specs.declared.Sixteen.{Sixteen}

-- ---- from the entries

abbrev pub four : (ℕ → Float) → Four
four g = record { t0 = g 0; t1 = g 1; t2 = g 2; t3 = g 3 }

-- two rows of two
abbrev pub square : (ℕ → ℕ → Float) → Four
square e = record { t0 = e 0 0; t1 = e 0 1; t2 = e 1 0; t3 = e 1 1 }

-- two rows of four
abbrev pub wide : (ℕ → ℕ → Float) → Eight
wide e = record { f0 = four (e 0); f1 = four (e 1) }

-- four rows of two
abbrev pub tall : (ℕ → ℕ → Float) → Eight
tall e = record { f0 = square e; f1 = square (λ r. e (suc (suc r))) }

-- four rows of four
abbrev pub large : (ℕ → ℕ → Float) → Sixteen
large e = record { f0 = four (e 0); f1 = four (e 1); f2 = four (e 2); f3 = four (e 3) }

-- ---- and back

abbrev pub of_two : {A : Type 0} → A → A → ℕ → A
of_two a b zero = a
of_two a b (suc k) = b

abbrev pub of_four : {A : Type 0} → A → A → A → A → ℕ → A
of_four a b c d zero = a
of_four a b c d (suc zero) = b
of_four a b c d (suc (suc zero)) = c
of_four a b c d (suc (suc (suc k))) = d

abbrev pub in_four : Four → ℕ → Float
in_four v = of_four v.t0 v.t1 v.t2 v.t3

abbrev pub in_square : Four → ℕ → ℕ → Float
in_square v = of_two (of_two v.t0 v.t1) (of_two v.t2 v.t3)

abbrev pub in_wide : Eight → ℕ → ℕ → Float
in_wide v = of_two (in_four v.f0) (in_four v.f1)

abbrev pub in_tall : Eight → ℕ → ℕ → Float
in_tall v = of_four (in_square v.f0 0) (in_square v.f0 1) (in_square v.f1 0) (in_square v.f1 1)

abbrev pub in_large : Sixteen → ℕ → ℕ → Float
in_large v = of_four (in_four v.f0) (in_four v.f1) (in_four v.f2) (in_four v.f3)
