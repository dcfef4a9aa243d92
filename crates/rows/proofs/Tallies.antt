-- The tally of a row, one feeder more: how many were accepted, and the first that was not. By induction on how many there are, the test moved on by one. Assumes nothing.
use mathlib.Core.Path.{◌≡◌, refl, sym, ap, ◌∙◌}
use mathlib.Core.Bool.{Bool, true, false, cond}
use mathlib.Core.List.{List}
use Prim.Native.Nat.compare
use Prim.Native.Nat.{ℕ, zero, suc, ◌+◌, ◌<◌, ◌≤◌}
use native.Mathlib.Omega.{arith}
use lib.Dec.{eqb}
use lib.Ieee.{Float}
use borrow.Author.Tests.{ne_eqb}
use Rattle.factors.specs.Decomposition.{first_not}
use Rattle.one_state.specs.declared.OneState.{OneState}
use Rattle.rows.specs.declared.Tally.{Tally}
use Rattle.rows.specs.Rows.{accepted_at, how_many, none_yet, tallied}

-- the tally of the first n feeders of a row by their readings
abbrev pub tally_of : List OneState → List Float → ℕ → Tally
tally_of row zs n = record { accepted = how_many (accepted_at row zs) n; first = first_not (accepted_at row zs) n }

-- ---- the first index at which a test p fails, among one more

-- where p holds there it moves on, if it was at the end; where p fails there it stays
abbrev run_on : Bool → ℕ → ℕ → ℕ
run_on b n f = cond b (cond (eqb f n) (suc n) f) f

-- one index in front: t is the test there, b the one at the end
in_front_lem : (t b : Bool) (n f : ℕ) → cond t (suc (run_on b n f)) zero ≡ run_on b (suc n) (cond t (suc f) zero)
in_front_lem true true n f = rw (compare.suc-suc f n) (go (eqb f n))
  where
    go : (e : Bool) → suc (cond e (suc n) f) ≡ cond e (suc (suc n)) (suc f)
    go true = refl
    go false = refl
in_front_lem true false n f = refl
in_front_lem false true n f = rw (ne_eqb 0 (suc n) (λ q. omega arith)) refl
in_front_lem false false n f = refl

pub first_more : (p : ℕ → Bool) (n : ℕ) → first_not p (suc n) ≡ run_on (p n) n (first_not p n)
unfolding first_not
first_more p zero = go (p zero)
  where
    go : (b : Bool) → cond b 1 0 ≡ run_on b 0 0
    go true = refl
    go false = refl
first_more p (suc n) = ap (λ (k : ℕ). cond (p zero) (suc k) zero) (first_more (λ k. p (suc k)) n) ∙ in_front_lem (p zero) (p (suc n)) n (first_not (λ k. p (suc k)) n)

-- it is not more than there are
pub first_small : (p : ℕ → Bool) (n : ℕ) → first_not p n ≤ n
unfolding first_not
first_small p zero = omega arith
first_small p (suc n) = go (p zero) (first_small (λ k. p (suc k)) n)
  where
    go : (b : Bool) → first_not (λ k. p (suc k)) n ≤ n → cond b (suc (first_not (λ k. p (suc k)) n)) zero ≤ suc n
    go true h = omega arith
    go false h = omega arith

-- ---- how many

pub how_many_small : (p : ℕ → Bool) (n : ℕ) → how_many p n ≤ n
unfolding how_many
how_many_small p zero = omega arith
how_many_small p (suc n) = go (p n) (how_many_small p n)
  where
    go : (b : Bool) → how_many p n ≤ n → how_many p n + cond b 1 0 ≤ suc n
    go true h = omega arith
    go false h = omega arith

-- where all hold it is n
pub how_many_all : (p : ℕ → Bool) (n : ℕ) → ((k : ℕ) → k < n → p k ≡ true) → how_many p n ≡ n
unfolding how_many
how_many_all p zero h = refl
how_many_all p (suc n) h = rw (h n (omega arith)) (omega (arith, how_many_all p n (λ k hk. h k (omega arith))))

-- tests that agree below n hold for as many
pub how_many_ext : (p q : ℕ → Bool) (n : ℕ) → ((k : ℕ) → k < n → p k ≡ q k) → how_many p n ≡ how_many q n
unfolding how_many
how_many_ext p q zero h = refl
how_many_ext p q (suc n) h = rw (h n (omega arith), how_many_ext p q n (λ k hk. h k (omega arith)))

-- ---- both

with_one : (b : Bool) (n a f : ℕ) → tallied b n (record { accepted = a; first = f }) ≡ record { accepted = a + cond b 1 0; first = run_on b n f }
with_one true n a f = ap (λ (k : ℕ). record { accepted = a + 1; first = cond (eqb f n) k f }) (omega arith)
with_one false n a f = ap (λ (k : ℕ). record { accepted = k; first = f }) (omega arith)

-- the tally of no feeders
pub tally_none : (row : List OneState) (zs : List Float) → none_yet ≡ tally_of row zs 0
unfolding how_many first_not
tally_none row zs = refl

-- the tally of n feeders, with the next one in, is that of one more
pub tally_more : (row : List OneState) (zs : List Float) (n : ℕ) → tallied (accepted_at row zs n) n (tally_of row zs n) ≡ tally_of row zs (suc n)
unfolding how_many
tally_more row zs n =
    with_one (accepted_at row zs n) n (how_many (accepted_at row zs) n) (first_not (accepted_at row zs) n)
    ∙ ap (λ (k : ℕ). record { accepted = how_many (accepted_at row zs) (suc n); first = k }) (sym (first_more (accepted_at row zs) n))
