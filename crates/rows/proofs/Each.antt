-- The first n of a row anew, each by what a step makes of its index and of it: one record more, how many there are, what stands where, and steps that agree. By induction on n, the step moved on by one. Assumes nothing.
use mathlib.Core.Path.{◌≡◌, refl, ap}
use mathlib.Core.Bool.{Bool, true, false, cond}
use mathlib.Core.List.{List, [], ◌∷◌}
use Prim.Native.Nat.{ℕ, zero, suc, ◌<◌, ◌≤◌}
use native.Mathlib.Nat.{not-suc-le-zero, le_of_suc-le-suc}
use native.Mathlib.Omega.{arith}
use lib.ListN.{length, set, get_or}
use Rattle.answers.specs.Answers.{is_done, settled, Answer}
use Rattle.rows.specs.Rows.{each}

module _ {A : Type 0} where
  -- the record at n, put by what the step makes of it as it stands there, is one more
  pub each_more : (g : ℕ → A → A) (n : ℕ) (row : List A) (d : A) → n < length row → set (each g n row) n (g n (get_or (each g n row) n d)) ≡ each g (suc n) row
  unfolding each
  each_more g n [] d l = absurd (not-suc-le-zero l)
  each_more g zero (s ∷ row) d l = refl
  each_more g (suc n) (s ∷ row) d l = ap (λ (t : List A). g zero s ∷ t) (each_more (λ i. g (suc i)) n row d (le_of_suc-le-suc l))

  -- the row stays as long as it is
  pub each-length : (g : ℕ → A → A) (n : ℕ) (row : List A) → length (each g n row) ≡ length row
  unfolding each
  each-length g zero row = refl
  each-length g (suc n) [] = refl
  each-length g (suc n) (s ∷ row) = ap suc (each-length (λ i. g (suc i)) n row)

  -- what stands below n is made anew, of its index and of what stood there ..
  pub each_at : (g : ℕ → A → A) (n i : ℕ) (row : List A) (d : A) → i < n → i < length row → get_or (each g n row) i d ≡ g i (get_or row i d)
  unfolding each
  each_at g zero i row d h l = absurd (not-suc-le-zero h)
  each_at g (suc n) i [] d h l = absurd (not-suc-le-zero l)
  each_at g (suc n) zero (s ∷ row) d h l = refl
  each_at g (suc n) (suc i) (s ∷ row) d h l = each_at (λ k. g (suc k)) n i row d (le_of_suc-le-suc h) (le_of_suc-le-suc l)

  -- .. and what does not is as it was
  pub each_past : (g : ℕ → A → A) (n i : ℕ) (row : List A) (d : A) → n ≤ i → get_or (each g n row) i d ≡ get_or row i d
  unfolding each
  each_past g zero i row d h = refl
  each_past g (suc n) zero row d h = absurd (not-suc-le-zero h)
  each_past g (suc n) (suc i) [] d h = refl
  each_past g (suc n) (suc i) (s ∷ row) d h = each_past (λ k. g (suc k)) n i row d (le_of_suc-le-suc h)

  -- steps that agree on what stands below n make the same of it
  pub each_ext : (g h : ℕ → A → A) (n : ℕ) (row : List A) (d : A) → ((i : ℕ) → i < n → i < length row → g i (get_or row i d) ≡ h i (get_or row i d)) → each g n row ≡ each h n row
  unfolding each
  each_ext g h zero row d same = refl
  each_ext g h (suc n) [] d same = refl
  each_ext g h (suc n) (s ∷ row) d same =
      rw (same zero (omega arith) (omega arith), each_ext (λ i. g (suc i)) (λ i. h (suc i)) n row d (λ i hn hl. same (suc i) (omega arith) (omega arith)))

  -- ---- as far as a call goes: all n where it is done, and none where it is refused

  pub each-settled : (g : ℕ → A → A) (v : Answer) (n : ℕ) (row : List A) → each g (settled v n 0) row ≡ settled v (each g n row) row
  unfolding each
  each-settled g v n row = go (is_done v)
    where
      go : (t : Bool) → each g (cond t n 0) row ≡ cond t (each g n row) row
      go true = refl
      go false = refl
