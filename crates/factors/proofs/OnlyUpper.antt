-- Only the diagonal and the upper triangle are read before they are written: two matrices that agree there have the same pivots, and the same factor.
-- Column by column: they agree, besides, in the columns that are done. Assumes nothing.
use mathlib.Core.Path.{◌≡◌, refl, sym, ap, ap₂, subst, ◌∙◌}
use mathlib.Core.Logic.{◌⊎◌, inl, inr, ⊎_elim}
use Prim.Native.Nat.{ℕ, zero, suc, ◌<◌, ◌≤◌}
use native.Mathlib.Nat.{not-suc-le-zero}
use native.Mathlib.Decide.{ℕ_discrete, dec_lt}
use native.Mathlib.Omega.{arith}
use borrow.Author.Tests.{lt-ltb, le-ltb}
use lib.Ieee.{Float, Format, mul}
use Rattle.numbers.specs.Reciprocal.{recip_of}
use Rattle.numbers.specs.Root.{sqrt_of}
use Rattle.grids.specs.Grid.{with_cell}
use Rattle.grids.proofs.Grids.{with_same, with_row, with_col}
use Rattle.factors.specs.Pivots.{pivot_taken}
use Rattle.factors.specs.Decomposition.{remains, column, factor, last_recip, reached, refused_at, decomposed, SameUpper}
use Rattle.factors.proofs.First.{first_ext}
use Rattle.factors.proofs.Below.{remains_ext, below_off, below_up, below_at}
use Rattle.factors.proofs.Sweep.{swept_refused, end_refused, left_accepted}

-- the running difference right of (i, i) does not read (i, i)
remains_with : (f : Format) (e : ℕ → ℕ → Float) (i r : ℕ) (v : Float) → i < r → remains f (with_cell e i i v) i r ≡ remains f e i r
remains_with f e i r v h =
    remains_ext f (with_cell e i i v) e i r (with_col e i i v i r (λ q. omega arith)) (λ k kh. with_col e i i v i k (λ q. omega arith)) (λ k kh. with_col e i i v r k (λ q. omega arith))

-- where e and g agree on the diagonal, above it and in columns below i, so do they with column i done in columns to i
column_upper :
    (f : Format) (n : ℕ) (e g : ℕ → ℕ → Float) (i : ℕ) (v w : Float) → v ≡ w → i < n
    → ((r c : ℕ) → r < n → c < n → (r ≤ c) ⊎ (c < i) → e r c ≡ g r c)
    → (r c : ℕ) → r < n → c < n → (r ≤ c) ⊎ (c < suc i) → column f e i v r c ≡ column f g i w r c
column_upper f n e g i v w q hi same r c hr hc where-at =
    subst (λ (u : Float). column f e i v r c ≡ column f g i u r c) q
    (elim (ℕ_discrete c i) [
      | yes p ↦
          subst (λ (x : ℕ). column f e i v r x ≡ column f g i v r x) (sym p)
          (elim (dec_lt i r) [
            | yes h ↦
                below_at f (with_cell e i i v) i (recip_of f v) r h
                ∙ ap (λ (x : Float). mul f x (recip_of f v))
                (remains_with f e i r v h
                ∙ remains_ext f e g i r (same i r hi hr (inl (omega arith))) (λ k kh. same i k hi (omega arith) (inr kh)) (λ k kh. same r k hr (omega arith) (inr kh))
                ∙ sym (remains_with f g i r v h))
                ∙ sym (below_at f (with_cell g i i v) i (recip_of f v) r h)
            | no h ↦
                below_up f (with_cell e i i v) i (recip_of f v) r i (omega arith)
                ∙ elim (ℕ_discrete r i) [
                  | yes s ↦ subst (λ (x : ℕ). with_cell e i i v x i ≡ with_cell g i i v x i) (sym s) (with_same e i i v ∙ sym (with_same g i i v))
                  | no s ↦ with_row e i i v r i s ∙ same r i hr hi (inl (omega arith)) ∙ sym (with_row g i i v r i s)
                ]
                ∙ sym (below_up f (with_cell g i i v) i (recip_of f v) r i (omega arith))
          ])
      | no p ↦
          below_off f (with_cell e i i v) i (recip_of f v) r c p ∙ with_col e i i v r c p
          ∙ same r c hr hc (⊎_elim (λ h. inl h) (λ h. inr (omega arith)) where-at)
          ∙ sym (below_off f (with_cell g i i v) i (recip_of f v) r c p ∙ with_col g i i v r c p)
    ])

-- a running difference at (i, i), of entries that agree so
pivot_upper :
    (f : Format) (n : ℕ) (e g : ℕ → ℕ → Float) (i : ℕ) → i < n → ((r c : ℕ) → r < n → c < n → (r ≤ c) ⊎ (c < i) → e r c ≡ g r c)
    → remains f e i i ≡ remains f g i i
pivot_upper f n e g i hi same =
    let left : (k : ℕ) → k < i → e i k ≡ g i k = λ k kh. same i k hi (omega arith) (inr kh) in
    remains_ext f e g i i (same i i hi hi (inl (omega arith))) left left

module _ (f : Format) (n : ℕ) (e g : ℕ → ℕ → Float) (same : SameUpper n e g) where
  -- with i columns done they agree on the diagonal, above it, and in those columns
  factor_upper : (i : ℕ) → i ≤ n → (r c : ℕ) → r < n → c < n → (r ≤ c) ⊎ (c < i) → factor f e i r c ≡ factor f g i r c
  unfolding factor
  factor_upper zero hi r c hr hc w = ⊎_elim (λ h. same r c h hc) (λ h. absurd (not-suc-le-zero h)) w
  factor_upper (suc i) hi r c hr hc w =
      let h = factor_upper i (omega arith) in
      column_upper f n (factor f e i) (factor f g i) i _ _ (ap (sqrt_of f) (pivot_upper f n (factor f e i) (factor f g i) i (omega arith) h)) (omega arith) h r c hr hc w

  -- the same pivots, so the same answer
  pub reached_upper : reached f n e ≡ reached f n g
  reached_upper =
      first_ext _ _ n (λ k kh. ap pivot_taken (pivot_upper f n (factor f e k) (factor f g k) k kh (factor_upper k (omega arith))))

  -- where every pivot is taken, the same factor
  pub decomposed_upper : n ≤ reached f n e → (r c : ℕ) → r < n → c < n → decomposed f n e r c ≡ decomposed f n g r c
  decomposed_upper h r c hr hc =
      let h' : n ≤ reached f n g = omega (arith, reached_upper) in
      ap (λ (d : ℕ → ℕ → Float). d r c) (left_accepted f n e h)
      ∙ elim (dec_lt r c) [
        | yes k ↦ simp (lt-ltb r c k)
        | no k ↦ simp (le-ltb r c (omega arith)) (factor_upper n (omega arith) r c hr hc (inr hc))
      ]
      ∙ sym (ap (λ (d : ℕ → ℕ → Float). d r c) (left_accepted f n g h'))

  -- the d before a pivot is the same
  recip_upper : (i : ℕ) → i < n → last_recip f e i ≡ last_recip f g i
  unfolding last_recip
  recip_upper zero h = refl
  recip_upper (suc k) h =
      ap (λ (x : Float). recip_of f (sqrt_of f x)) (pivot_upper f n (factor f e k) (factor f g k) k (omega arith) (factor_upper k (omega arith)))

  -- where pivot i is refused, the same cells above the diagonal, on it, and in the columns done
  pub refused_upper : (i : ℕ) → i < n → reached f n e ≡ i → (r c : ℕ) → r < n → c < n → (r ≤ c) ⊎ (c < i) → decomposed f n e r c ≡ decomposed f n g r c
  refused_upper i h q r c hr hc w =
      let left : (d : ℕ → ℕ → Float) → reached f n d ≡ i → decomposed f n d r c ≡ refused_at f d i r c =
      λ d s. ap (λ (x : ℕ → ℕ → Float). x r c) (sym (end_refused f n d i h s) ∙ swept_refused f n d i h s) in
      let E = factor f e i in
      let G = factor f g i in
      let same-so-far = factor_upper i (omega arith) in
      let v = mul f (remains f E i i) (last_recip f e i) in
      let u = mul f (remains f G i i) (last_recip f g i) in
      let one : v ≡ u = ap₂ (mul f) (pivot_upper f n E G i h same-so-far) (recip_upper i h) in
      left e q
      ∙ elim (ℕ_discrete r i) [
        | yes p ↦
            elim (ℕ_discrete c i) [
              | yes s ↦
                  subst (λ (x : ℕ). with_cell E i i v x c ≡ with_cell G i i u x c) (sym p)
                  (subst (λ (x : ℕ). with_cell E i i v i x ≡ with_cell G i i u i x) (sym s) (with_same E i i v ∙ one ∙ sym (with_same G i i u)))
              | no s ↦ with_col E i i v r c s ∙ same-so-far r c hr hc w ∙ sym (with_col G i i u r c s)
            ]
        | no p ↦ with_row E i i v r c p ∙ same-so-far r c hr hc w ∙ sym (with_row G i i u r c p)
      ]
      ∙ sym (left g (sym reached_upper ∙ q))
