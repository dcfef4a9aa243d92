-- How the rows of the upper triangle become the columns of the factor: row i is filled out of the rows above it, which hold the factor's columns left of i.
-- So what is left of an entry is what remains of the definition's, and a row more is a column more. Assumes nothing.
use mathlib.Core.Path.{◌≡◌, refl, sym, ap, ap₂, subst, ◌∙◌}
use Prim.Native.Nat.{ℕ, zero, suc, ◌<◌, ◌≤◌}
use native.Mathlib.Decide.{ℕ_discrete}
use native.Mathlib.Omega.{arith}
use borrow.Author.Tests.{eq-eqb, ne_eqb}
use lib.Ieee.{Float, Format, mul}
use Rattle.numbers.specs.Reciprocal.{recip_of}
use Rattle.numbers.specs.Root.{sqrt_of}
use Rattle.grids.specs.Grid.{with_cell}
use Rattle.grids.proofs.Grids.{with_same, with_col}
use Rattle.factors.specs.Decomposition.{remains, factor, pivot_at}
use Rattle.factors.proofs.Below.{remains_ext, below_off, below_up, below_at}
use Rattle.upper_rows.specs.Rows.{left, filled}
use Rattle.upper_rows.proofs.Differences.{less_same}

-- of the entries T, that were e, rows above i hold the factor's columns, and the others are as they were; nothing is said of what lies below the diagonal
pub record Upward (f : Format) (n : ℕ) (e T : ℕ → ℕ → Float) (i : ℕ) : Type 0 where
  pub done : (r c : ℕ) → r < i → r ≤ c → c < n → T r c ≡ factor f e i c r
  pub raw : (r c : ℕ) → i ≤ r → r ≤ c → c < n → T r c ≡ e r c

-- ---- the definition's columns

module _ (f : Format) (e : ℕ → ℕ → Float) where
  -- another column is as it was
  factor_off : (i r c : ℕ) → (c ≡ i → ⊥) → factor f e (suc i) r c ≡ factor f e i r c
  unfolding factor
  factor_off i r c h =
      let F = factor f e i in
      let v = sqrt_of f (remains f F i i) in
      below_off f (with_cell F i i v) i (recip_of f v) r c h ∙ with_col F i i v r c h

  -- with i columns done those from i on are as they were
  factor_right : (i r c : ℕ) → i ≤ c → factor f e i r c ≡ e r c
  unfolding factor
  factor_right zero r c h = refl
  factor_right (suc i) r c h = factor_off i r c (λ q. omega arith) ∙ factor_right i r c (omega arith)

  -- on the diagonal stands the root
  factor_root : (i : ℕ) → factor f e (suc i) i i ≡ sqrt_of f (pivot_at f e i)
  unfolding factor
  factor_root i =
      let F = factor f e i in
      let v = sqrt_of f (remains f F i i) in
      below_up f (with_cell F i i v) i (recip_of f v) i i (omega arith) ∙ with_same F i i v

  -- below it what remains, times the root's reciprocal
  factor-below : (i r : ℕ) → i < r → factor f e (suc i) r i ≡ mul f (remains f (factor f e i) i r) (recip_of f (sqrt_of f (pivot_at f e i)))
  unfolding factor
  factor-below i r h =
      let F = factor f e i in
      let v = sqrt_of f (remains f F i i) in
      below_at f (with_cell F i i v) i (recip_of f v) r h
      ∙ ap (λ (x : Float). mul f x (recip_of f v))
      (remains_ext f (with_cell F i i v) F i r (with_col F i i v i r (λ q. omega arith)) (λ k kh. with_col F i i v i k (λ q. omega arith)) (λ k kh. with_col F i i v r k (λ q. omega arith)))

-- ---- what is left

module _ {f : Format} {n : ℕ} {e T : ℕ → ℕ → Float} {i : ℕ} (u : Upward f n e T i) where
  -- what is left of an entry of row i is what remains
  left-remains : (c : ℕ) → i ≤ c → c < n → left f T i c ≡ remains f (factor f e i) i c
  left-remains c h hc =
      less_same f (T i c) (factor f e i i c) (λ k. T k i) (λ k. T k c) (factor f e i i) (factor f e i c) i
      (u.raw i c (omega arith) h hc ∙ sym (factor_right f e i i c h))
      (λ k kh. u.done k i kh (omega arith) (omega arith))
      (λ k kh. u.done k c kh (omega arith) hc)

  -- so the pivot is the definition's
  pub left_pivot : i < n → left f T i i ≡ pivot_at f e i
  left_pivot h = left-remains i (omega arith) h

  -- row i filled is column i of the factor
  filled-column : (c : ℕ) → i ≤ c → c < n → filled f T i c ≡ factor f e (suc i) c i
  filled-column c h hc =
      elim (ℕ_discrete c i) [
        | yes q ↦
            subst (λ (x : ℕ). filled f T i x ≡ factor f e (suc i) x i) (sym q)
            (simp (eq-eqb i i refl) (ap (sqrt_of f) (left_pivot (omega arith)) ∙ sym (factor_root f e i)))
        | no q ↦
            simp (ne_eqb c i q)
            (ap₂ (λ (x y : Float). mul f x (recip_of f (sqrt_of f y))) (left-remains c h hc) (left_pivot (omega arith))
            ∙ sym (factor-below f e i c (omega arith)))
      ]

  -- a row more is filled
  pub upward_more :
      (T' : ℕ → ℕ → Float) → i < n → ((c : ℕ) → i ≤ c → c < n → T' i c ≡ filled f T i c)
      → ((r c : ℕ) → r < n → c < n → (r ≡ i → ⊥) → T' r c ≡ T r c)
      → Upward f n e T' (suc i)
  upward_more T' hi row others = record {
    done = λ r c h k hc.
        elim (ℕ_discrete r i) [
          | yes q ↦ subst (λ (x : ℕ). T' x c ≡ factor f e (suc i) c x) (sym q) (row c (omega arith) hc ∙ filled-column c (omega arith) hc)
          | no q ↦ others r c (omega arith) hc q ∙ u.done r c (omega arith) k hc ∙ sym (factor_off f e i c r q)
        ];
    raw = λ r c h k hc. others r c (omega arith) hc (λ q. omega arith) ∙ u.raw r c (omega arith) k hc;
  }

-- before the first row none is filled
pub upward_start : (f : Format) (n : ℕ) (e : ℕ → ℕ → Float) → Upward f n e e 0
upward_start f n e = record { done = λ r c h k hc. absurd (omega arith); raw = λ r c h k hc. refl }
