-- The first index at which a test fails: by induction on how many there are, the test moved on by one. Assumes nothing.
use mathlib.Core.Path.{◌≡◌, refl, ap, subst}
use mathlib.Core.Bool.{Bool, true, false, cond}
use Prim.Native.Nat.{ℕ, zero, suc, ◌<◌, ◌≤◌}
use native.Mathlib.Nat.{not-suc-le-zero, le_of_suc-le-suc}
use native.Mathlib.Omega.{arith}
use Rattle.factors.specs.Decomposition.{first_not}

-- an index that fails, with none before it, is the first
pub first_is : (p : ℕ → Bool) (n i : ℕ) → i < n → ((k : ℕ) → k < i → p k ≡ true) → p i ≡ false → first_not p n ≡ i
unfolding first_not
first_is p zero i h a b = absurd (not-suc-le-zero h)
first_is p (suc n) zero h a b = rw b
first_is p (suc n) (suc i) h a b =
    rw (a zero (omega arith)) (ap suc (first_is (λ k. p (suc k)) n i (le_of_suc-le-suc h) (λ k kh. a (suc k) (omega arith)) b))

-- where none fails it is n
pub first-none : (p : ℕ → Bool) (n : ℕ) → ((k : ℕ) → k < n → p k ≡ true) → first_not p n ≡ n
unfolding first_not
first-none p zero a = refl
first-none p (suc n) a = rw (a zero (omega arith)) (ap suc (first-none (λ k. p (suc k)) n (λ k kh. a (suc k) (omega arith))))

-- the first is not behind one that fails
pub first_before : (p : ℕ → Bool) (n i : ℕ) → i < n → p i ≡ false → first_not p n ≤ i
unfolding first_not
first_before p zero i h b = absurd (not-suc-le-zero h)
first_before p (suc n) zero h b = rw b (omega arith)
first_before p (suc n) (suc i) h b = step (p zero) (first_before (λ k. p (suc k)) n i (le_of_suc-le-suc h) b)
  where
    step : (t : Bool) → first_not (λ k. p (suc k)) n ≤ i → cond t (suc (first_not (λ k. p (suc k)) n)) zero ≤ suc i
    step true l = omega arith
    step false l = omega arith

-- ---- the other way round: what the first index says

-- m fails and none before it does
Found : (ℕ → Bool) → ℕ → Type 0
Found p m = ((k : ℕ) → k < m → p k ≡ true) × (p m ≡ false)

-- the same with one index in front
found_next : (p : ℕ → Bool) (m n : ℕ) (b : Bool) → p zero ≡ b → (m < n → Found (λ k. p (suc k)) m) → cond b (suc m) zero < suc n → Found p (cond b (suc m) zero)
unfolding Found
found_next p m n true q ih h = (below, (ih (le_of_suc-le-suc h)).1)
  where
    below : (k : ℕ) → k < suc m → p k ≡ true
    below zero kh = q
    below (suc k) kh = (ih (le_of_suc-le-suc h)).0 k (le_of_suc-le-suc kh)
found_next p m n false q ih h = ((λ k kh. absurd (not-suc-le-zero kh)), q)

-- what is below n is an index that fails, with none before it
found : (p : ℕ → Bool) (n : ℕ) → first_not p n < n → Found p (first_not p n)
unfolding first_not
found p zero h = absurd (not-suc-le-zero h)
found p (suc n) h = found_next p (first_not (λ k. p (suc k)) n) n (p zero) refl (found (λ k. p (suc k)) n) h

-- so is an index that is known to be the first
pub first_found : (p : ℕ → Bool) (n i : ℕ) → i < n → first_not p n ≡ i → ((k : ℕ) → k < i → p k ≡ true) × (p i ≡ false)
unfolding Found
first_found p n i h q = subst (λ (m : ℕ). ((k : ℕ) → k < m → p k ≡ true) × (p m ≡ false)) q (found p n (omega arith))

-- tests that agree below n have the same first
pub first_ext : (p q : ℕ → Bool) (n : ℕ) → ((k : ℕ) → k < n → p k ≡ q k) → first_not p n ≡ first_not q n
unfolding first_not
first_ext p q zero h = refl
first_ext p q (suc n) h = rw (h zero (omega arith), first_ext (λ k. p (suc k)) (λ k. q (suc k)) n (λ k kh. h (suc k) (omega arith)))

-- the step of the law below: one index in front
all_next :
    (p : ℕ → Bool) (m n : ℕ) (b : Bool) → p zero ≡ b → (n ≤ m → (k : ℕ) → k < n → p (suc k) ≡ true) → suc n ≤ cond b (suc m) zero → (k : ℕ) → k < suc n → p k ≡ true
all_next p m n true q ih h zero kh = q
all_next p m n true q ih h (suc k) kh = ih (le_of_suc-le-suc h) k (le_of_suc-le-suc kh)
all_next p m n false q ih h k kh = absurd (not-suc-le-zero h)

-- where it is n none fails
pub first_all : (p : ℕ → Bool) (n : ℕ) → n ≤ first_not p n → (k : ℕ) → k < n → p k ≡ true
unfolding first_not
first_all p zero h k kh = absurd (not-suc-le-zero kh)
first_all p (suc n) h k kh = all_next p (first_not (λ j. p (suc j)) n) n (p zero) refl (first_all (λ j. p (suc j)) n) h k kh
