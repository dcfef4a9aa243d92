-- A test that holds for every index: by induction on how many there are. Assumes nothing.
use mathlib.Core.Path.{◌≡◌, refl, sym, ap, ◌∙◌}
use mathlib.Core.Logic.{⊎_elim}
use mathlib.Core.Bool.{Bool, true, false, ◌&&◌, true≢false}
use Prim.Native.Nat.{ℕ, zero, suc, ◌+◌, ◌*◌, ◌<◌}
use native.Mathlib.Nat.{not-suc-le-zero, le_of_suc-le-suc, eq-or-lt_of_le, zero-mul, suc-mul, add-zero, add-suc}
use native.Mathlib.Numerals.{add-one}
use native.Mathlib.Omega.{arith}
use Rattle.numbers.specs.Finite.{every}

-- ---- both of two tests

pub first_holds : (a b : Bool) → a && b ≡ true → a ≡ true
first_holds true b e = refl
first_holds false b e = e

pub second_holds : (a b : Bool) → a && b ≡ true → b ≡ true
second_holds true b e = e
second_holds false b e = absurd (true≢false (sym e))

pub then_fails : (a b : Bool) → b ≡ false → a && b ≡ false
then_fails true b e = e
then_fails false b e = refl

and_assoc : (a b c : Bool) → (a && b) && c ≡ a && (b && c)
and_assoc true b c = refl
and_assoc false b c = refl

-- ---- every index below n

-- no index, and one more
pub every_none : (p : ℕ → Bool) → every 0 p ≡ true
unfolding every
every_none p = refl

pub every_more : (n : ℕ) (p : ℕ → Bool) → every (n + 1) p ≡ every n p && p n
unfolding every
every_more n p = rw add-one

-- where the test holds for every index it holds for each ..
pub holds_at : (n : ℕ) (p : ℕ → Bool) → every n p ≡ true → (i : ℕ) → i < n → p i ≡ true
unfolding every
holds_at zero p e i h = absurd (not-suc-le-zero h)
holds_at (suc n) p e i h =
    ⊎_elim
    (λ q. ap p q ∙ second_holds (every n p) (p n) e)
    (λ l. holds_at n p (first_holds (every n p) (p n) e) i l)
    (eq-or-lt_of_le (le_of_suc-le-suc h))

-- .. and where it holds for each it holds for every index
pub holds_everywhere : (n : ℕ) (p : ℕ → Bool) → ((i : ℕ) → i < n → p i ≡ true) → every n p ≡ true
unfolding every
holds_everywhere zero p h = refl
holds_everywhere (suc n) p h = rw (holds_everywhere n p (λ i l. h i (omega arith))) (h n (omega arith))

-- where it does not hold for every index there is one at which it fails ..
pub fails_at : (n : ℕ) (p : ℕ → Bool) → every n p ≡ false → (i : ℕ) × (i < n) × (p i ≡ false)
unfolding every
fails_at zero p e = absurd (true≢false e)
fails_at (suc n) p e = go (every n p) refl (fails_at n p)
  where
    go : (b : Bool) → every n p ≡ b → (every n p ≡ false → (i : ℕ) × (i < n) × (p i ≡ false)) → (i : ℕ) × (i < suc n) × (p i ≡ false)
    go true q before = (n, omega arith, rw q at e)
    go false q before = let w = before q in (w.0, omega (arith, w.1), w.2)

-- .. and where it fails at one it does not hold for every index
pub fails_somewhere : (n : ℕ) (p : ℕ → Bool) (i : ℕ) → i < n → p i ≡ false → every n p ≡ false
unfolding every
fails_somewhere zero p i h e = absurd (not-suc-le-zero h)
fails_somewhere (suc n) p i h e =
    ⊎_elim
    (λ q. then_fails (every n p) (p n) (ap p (sym q) ∙ e))
    (λ l. ap (λ (b : Bool). b && p n) (fails_somewhere n p i l e))
    (eq-or-lt_of_le (le_of_suc-le-suc h))

-- tests that agree below n agree on every index
pub every_same : (n : ℕ) (p q : ℕ → Bool) → ((i : ℕ) → i < n → p i ≡ q i) → every n p ≡ every n q
unfolding every
every_same zero p q h = refl
every_same (suc n) p q h = rw (every_same n p q (λ i l. h i (omega arith)), h n (omega arith))

-- m indexes and n more
every-add : (m n : ℕ) (p : ℕ → Bool) → every (m + n) p ≡ every m p && every n (λ k. p (m + k))
unfolding every
every-add m zero p = rw add-zero (nothing (every m p))
  where
    nothing : (b : Bool) → b ≡ b && true
    nothing true = refl
    nothing false = refl
every-add m (suc n) p = rw (add-suc, every-add m n p) (and_assoc (every m p) (every n (λ k. p (m + k))) (p (m + n)))

-- the cells of a matrix, row after row, are its entries
pub every_flat : (rows cols : ℕ) (p : ℕ → Bool) → every (rows * cols) p ≡ every rows (λ r. every cols (λ c. p (r * cols + c)))
unfolding every
every_flat zero cols p = rw zero-mul
every_flat (suc r) cols p = rw (suc-mul, every-add (r * cols) cols p, every_flat r cols p)
