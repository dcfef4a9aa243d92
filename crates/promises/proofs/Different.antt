-- Two runs with the same As (and Qs) that start from different numbers end in different numbers. Where all numbers at the end were the same, all at the start would be. Assumes nothing.
use mathlib.Core.Path.{◌≡◌, sym, subst}
use mathlib.Core.Bool.{true}
use mathlib.Core.List.{List}
use mathlib.Core.Logic.{◌⊎◌, inl, inr, ⊎_elim}
use Prim.Native.Nat.{ℕ, zero, suc, ◌<◌}
use native.Mathlib.Nat.{le_step, le_refl, not-suc-le-zero, le_of_suc-le-suc, eq-or-lt_of_le}
use lib.IntN.{ℤ, ℤ_discrete}
use lib.Ieee.{Float, Format, ne}
use Rattle.numbers.specs.Whole.{Whole}
use Rattle.grids.specs.Grid.{cell}
use Rattle.entries.specs.Entries.{numbers}
use Rattle.promises.specs.Formulas.{Column, Matrix, Spreading, exact_x, exact_p}
use Rattle.promises.specs.Runs.{State, HoldsColumn, HoldsMatrix}
use Rattle.promises.specs.WholeNumbers.{WholeX, WholeP, AllUnitUpper, AsOf, DifferX, DifferP}
use Rattle.promises.proofs.Exact.{exact_x_lem, exact_p_lem}
use Rattle.promises.proofs.Injective.{x_run, p_run}
use Rattle.promises.proofs.Numbers.{ne_numbers, numbers_ne}

-- a place below n where the property holds, or none
search_below : (n : ℕ) (Here : ℕ → Type 0) (None : ℕ → Type 0) → ((r : ℕ) → r < n → Here r ⊎ None r)
    → ((r : ℕ) × (r < n) × Here r) ⊎ ((r : ℕ) → r < n → None r)
search_below zero Here None try = inr (λ r l. absurd (not-suc-le-zero l))
search_below (suc n) Here None try =
    ⊎_elim
    (λ h. inl (n, le_refl (suc n), h))
    (λ no_last. ⊎_elim (λ t. inl (t.0, le_step t.1, t.2)) (λ before. inr (λ r l. ⊎_elim (λ q. subst None (sym q) no_last) (before r) (eq-or-lt_of_le (le_of_suc-le-suc l)))) (search_below n Here None (λ r l. try r (le_step l))))
    (try n (le_refl (suc n)))

-- two floats that are whole numbers: different, or the same number
tell : (x y : Float) (a b : ℤ) → Whole x a → Whole y b → (ne x y ≡ true) ⊎ (a ≡ b)
tell x y a b v w = elim (ℤ_discrete a b) [ yes e ↦ inr e | no h ↦ inl (numbers_ne x y a b v w h) ]

-- two buffers that hold whole numbers: different in some place, or the same numbers
told_x : (n : ℕ) (s s' : State) (v v' : Column) → HoldsColumn n s.x v → HoldsColumn n s'.x v' → DifferX n s s' ⊎ ((r : ℕ) → r < n → v r ≡ v' r)
told_x n s s' v v' h h' = search_below n _ _ (λ r lt. tell (numbers s.x r) (numbers s'.x r) (v r) (v' r) (h r lt) (h' r lt))

told-P : (n : ℕ) (s s' : State) (p p' : Matrix) → HoldsMatrix n s.P p → HoldsMatrix n s'.P p' → DifferP n s s' ⊎ ((r c : ℕ) → r < n → c < n → p r c ≡ p' r c)
told-P n s s' p p' h h' =
    ⊎_elim
    (λ t. inl (t.0, t.2.0, t.1, t.2.1, t.2.2))
    (λ same. inr (λ r c lr lc. same r lr c lc))
    (search_below n (λ r. (c : ℕ) × (c < n) × (ne (cell n s.P r c) (cell n s'.P r c) ≡ true)) (λ r. (c : ℕ) → c < n → p r c ≡ p' r c)
    (λ r lr. search_below n _ _ (λ c lc. tell (cell n s.P r c) (cell n s'.P r c) (p r c) (p' r c) (h r c lr lc) (h' r c lr lc))))

pub different_x : (f : Format) (n : ℕ) (ms : List Matrix) (ss ss' : List Spreading) (s e s' e' : State) (v v' : Column)
    → WholeX f n ms ss s e v → WholeX f n ms ss' s' e' v' → AllUnitUpper n ms
    → DifferX n s s' → DifferX n e e'
different_x f n ms ss ss' s e s' e' v v' run run' upper d =
    ⊎_elim (λ t. t)
    (λ same. absurd (ne_numbers _ _ (v d.0) (v' d.0) (run.start d.0 d.1) (run'.start d.0 d.1) d.2 (x_run n ms upper v v' same d.0 d.1)))
    (told_x n e e' (exact_x n ms v) (exact_x n ms v') (exact_x_lem f n ms ss s e v run) (exact_x_lem f n ms ss' s' e' v' run'))

pub different_p : (f : Format) (n : ℕ) (ms ms' : List Matrix) (ss : List Spreading) (s e s' e' : State) (p p' : Matrix)
    → WholeP f n ms ss s e p → WholeP f n ms' ss s' e' p' → AllUnitUpper n (AsOf ss)
    → DifferP n s s' → DifferP n e e'
different_p f n ms ms' ss s e s' e' p p' run run' upper d =
    ⊎_elim (λ t. t)
    (λ same. absurd (ne_numbers _ _ (p d.0 d.1) (p' d.0 d.1) (run.start d.0 d.1 d.2 d.3) (run'.start d.0 d.1 d.2 d.3) d.4 (p_run n ss upper p p' same d.0 d.1 d.2 d.3)))
    (told-P n e e' (exact_p n ss p) (exact_p n ss p') (exact_p_lem f n ms ss s e p run) (exact_p_lem f n ms' ss s' e' p' run'))
