-- The steps of a correction one after the other, over plain lists: from what each call leaves to the entries of the definitions.
-- A step reads a buffer that an earlier one wrote within its matrix alone, so its cells may be replaced by the entries written. Assumes nothing.
use mathlib.Core.Path.{◌≡◌, refl, sym, ap, ◌∙◌}
use mathlib.Core.Bool.{Bool, true, false}
use mathlib.Core.List.{List}
use Prim.Native.Nat.{ℕ, ◌+◌, ◌*◌, ◌<◌, ◌≤◌}
use lib.ListN.{length, get_or}
use lib.Ieee.{Float, Format, nan, add, sub}
use lib.Ieee.Scale.{finite}
use Rattle.std.proofs.Common.{Ok, Err}
use Rattle.answers.specs.declared.Refusal.TheVariants.{NotFinite}
use Rattle.numbers.specs.Finite.{every, all_finite, entries_finite}
use Rattle.numbers.proofs.Every.{every_same, every_flat}
use Rattle.grids.specs.Grid.{cell, run, grid}
use Rattle.grids.proofs.Grids.{run_over, run_ext, grid_ext}
use Rattle.grids.proofs.Steps.{regrid}
use Rattle.entries.specs.Entries.{times, numbers, product, product_t, row_product}
use Rattle.factors.specs.Decomposition.{reached, decomposed}
use Rattle.factors.specs.Inverse.{inverse}
use Rattle.filters.specs.Correction.{innovation_of, hp_of, residual_of, factor_of, pivot_of, pht_of, new_x}
use Rattle.filters.specs.Corrected.{finite_answer}
use Rattle.entries.proofs.Written.{written, front-cell, entrywise, times_alike, times_t_alike}
use Rattle.factors.proofs.Local.{reached_local, decomposed_local}

-- y = H·x, y = z − y.
pub innovated :
    (f : Format) (n m : ℕ) (x H z y y₁ y₂ : List Float) → m ≤ length y → y₁ ≡ run 0 m (row_product f n H x) y
    → y₂ ≡ run 0 m (λ i. sub f (get_or z i nan) (get_or y₁ i nan)) y₁
    → y₂ ≡ run 0 m (innovation_of f n (cell n H) (numbers x) (numbers z)) y
innovated f n m x H z y y₁ y₂ fits e₁ e₂ =
    e₂ ∙ run_over 0 m (λ i. sub f (get_or z i nan) (get_or y₁ i nan)) (row_product f n H x) y₁ y e₁
    ∙ run_ext 0 m _ _ y (λ i h. ap (sub f (get_or z i nan)) (front-cell m (row_product f n H x) y y₁ i h fits e₁))

-- S = temp_HP·Hᵀ, S = S + R.
pub summed :
    (f : Format) (n m : ℕ) (HP H R S S₁ : List Float) {S₂ : List Float} → m * m ≤ length S → S₁ ≡ grid m m (product_t f n HP H) S
    → S₂ ≡ run 0 (m * m) (λ j. add f (get_or S₁ j nan) (get_or R j nan)) S₁
    → S₂ ≡ grid m m (λ r c. add f (product_t f n HP H r c) (cell m R r c)) S
summed f n m HP H R S S₁ s_fits e₁ e₂ =
    e₂ ∙ entrywise m (add f) S₁ R S₁
    ∙ regrid m (λ e r c. add f (e r c) (cell m R r c)) (product_t f n HP H) S S₁ s_fits (λ e g s r c hr hc. ap (λ (x : Float). add f x (cell m R r c)) (s r c hr hc)) e₁

-- temp_HP = H·P, S = temp_HP·Hᵀ + R, S decomposed: the index, and the factor.
pub residual :
    (f : Format) (n m : ℕ) (P H R HP S HP' S₁ : List Float) {S₂ : List Float} {i : ℕ} → m * n ≤ length HP → m * m ≤ length S
    → HP' ≡ grid m n (product f n n H P) HP → S₁ ≡ grid m m (λ r c. add f (product_t f n HP' H r c) (cell m R r c)) S
    → i ≡ reached f m (cell m S₁) → S₂ ≡ grid m m (decomposed f m (cell m S₁)) S₁
    → (i ≡ pivot_of f n m (cell n H) (cell n P) (cell m R)) × (S₂ ≡ grid m m (factor_of f n m (cell n H) (cell n P) (cell m R)) S)
residual f n m P H R HP S HP' S₁ HP-fits s_fits e₁ e₂ e₃ e₄ =
    let sum_of : S₁ ≡ grid m m (residual_of f n (cell n H) (cell n P) (cell m R)) S =
    e₂
    ∙ grid_ext m m _ _ S
    (λ r c hr hc. ap (λ (x : Float). add f x (cell m R r c))
    (times_t_alike f m n m (cell n HP') (hp_of f n (cell n H) (cell n P)) (cell n H) (cell n H) (written m n _ HP HP' HP-fits e₁) (λ r c hr hc. refl) r c hr hc)) in (
      e₃ ∙ reached_local f m (cell m S₁) _ (written m m _ S S₁ s_fits sum_of),
      e₄ ∙ regrid m (decomposed f m) _ S S₁ s_fits (λ e g s. decomposed_local f m e g s) sum_of,
    )

-- K = temp_PHt·temp_S_inv.
pub gain :
    (f : Format) (n m : ℕ) (P H S I K PHt I' PHt' : List Float) {K' : List Float} → m * m ≤ length I → n * m ≤ length PHt
    → I' ≡ grid m m (inverse f m (cell m S) (cell m I)) I → PHt' ≡ grid n m (product_t f n P H) PHt → K' ≡ grid n m (product f m m PHt' I') K
    → K' ≡ grid n m (times f m (pht_of f n (cell n H) (cell n P)) (inverse f m (cell m S) (cell m I))) K
gain f n m P H S I K PHt I' PHt' i_fits PHt-fits e₁ e₂ e₃ =
    e₃ ∙ grid_ext n m _ _ K (times_alike f n m m (cell m PHt') _ (cell m I') _ (written n m _ PHt PHt' PHt-fits e₂) (written m m _ I I' i_fits e₁))

-- temp_KHP = K·temp_HP, and K·y aside; then x + K·y and P − temp_KHP are tested, and stored where all of both is finite.
module _ (f : Format) (n m : ℕ) (x P y K HP KHP ky ky' KHP' : List Float) (ky-fits : n ≤ length ky) (KHP-fits : n * n ≤ length KHP)
    (e₁ : ky' ≡ run 0 n (row_product f m K y) ky) (e₂ : KHP' ≡ grid n n (product f m n K HP) KHP) where
  -- what the program adds up and takes off
  abbrev sum : ℕ → Float
  sum i = add f (get_or x i nan) (get_or ky' i nan)

  abbrev difference : ℕ → Float
  difference i = sub f (get_or P i nan) (get_or KHP' i nan)

  -- x and P anew
  abbrev X : ℕ → Float
  X = new_x f m (cell m K) (numbers x) (numbers y)

  abbrev Q : ℕ → ℕ → Float
  Q r c = sub f (cell n P r c) (times f m (cell m K) (cell n HP) r c)

  sum_is : (i : ℕ) → i < n → sum i ≡ X i
  sum_is i h = ap (add f (get_or x i nan)) (front-cell n (row_product f m K y) ky ky' i h ky-fits e₁)

  difference_is : (r c : ℕ) → r < n → c < n → difference (r * n + c) ≡ Q r c
  difference_is r c hr hc = ap (sub f (cell n P r c)) (written n n _ KHP KHP' KHP-fits e₂ r c hr hc)

  sums_tested : (a : Bool) → a ≡ all_finite n sum → a ≡ all_finite n X
  sums_tested a e = e ∙ every_same n (λ i. finite (sum i)) (λ i. finite (X i)) (λ i h. ap finite (sum_is i h))

  differences_tested : (b : Bool) → b ≡ all_finite (n * n) difference → b ≡ entries_finite n Q
  differences_tested b e =
      e ∙ every_flat n n (λ i. finite (difference i))
      ∙ every_same n (λ r. every n (λ c. finite (difference (r * n + c)))) (λ r. all_finite n (Q r))
      (λ r hr. every_same n (λ c. finite (difference (r * n + c))) (λ c. finite (Q r c)) (λ c hc. ap finite (difference_is r c hr hc)))

  -- a says of the sums whether they are finite, and b of the differences
  module _ {a b : Bool} (told : a ≡ all_finite n sum) (told' : b ≡ all_finite (n * n) difference) where
    pub stored : {x' P' : List Float} → a ≡ true → b ≡ true → x' ≡ run 0 n sum x → P' ≡ run 0 (n * n) difference P
        → (Ok tt ≡ finite_answer n X Q) × (x' ≡ run 0 n X x) × (P' ≡ grid n n Q P)
    stored t t' q q' = (
      rw (sym (sums_tested a told) ∙ t, sym (differences_tested b told') ∙ t') refl,
      q ∙ run_ext 0 n sum X x sum_is,
      q' ∙ entrywise n (sub f) P KHP' P ∙ grid_ext n n _ _ P difference_is,
    )

    pub difference_refused : a ≡ true → b ≡ false → Err NotFinite ≡ finite_answer n X Q
    difference_refused t t' = rw (sym (sums_tested a told) ∙ t, sym (differences_tested b told') ∙ t') refl

  pub sum_refused : {a : Bool} → a ≡ all_finite n sum → a ≡ false → Err NotFinite ≡ finite_answer n X Q
  sum_refused {a} told t = rw (sym (sums_tested a told) ∙ t) refl
