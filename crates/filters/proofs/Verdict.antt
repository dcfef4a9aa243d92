-- The last test of an update, and what its answer tells: a refusal below 9 came before the test; done and 9 say that nothing did, and whether the new x and P are finite.
-- By cases of the answer before it and of the test. Assumes nothing.
use mathlib.Core.Path.{◌≡◌, refl, sym, ap, ap₂, subst, ◌∙◌}
use mathlib.Core.Logic.{inl, inr}
use mathlib.Core.Bool.{Bool, true, false, cond, ◌&&◌, true≢false}
use Prim.Native.Nat.{ℕ, ◌<◌, ◌≤◌}
use native.Mathlib.Omega.{arith}
use lib.Ieee.{Float}
use lib.Ieee.Scale.{finite}
use Rattle.std.proofs.Common.{Ok, Err}
use Rattle.answers.specs.declared.Refusal.TheVariants.{NotFinite}
use Rattle.answers.specs.Answers.{number_of, is_done, first_of, Answer}
use Rattle.answers.proofs.Asked.{goes_on, stops}
use Rattle.numbers.specs.Finite.{all_finite, entries_finite}
use Rattle.numbers.proofs.Every.{first_holds, second_holds, then_fails, holds_at, holds_everywhere, fails_at, fails_somewhere, every_same}
use Rattle.grids.specs.Grid.{SameEntries}
use Rattle.filters.specs.Corrected.{finite_answer}
use Rattle.filters.specs.Outcomes.{EachFinite, SomeNotFinite}

-- ---- the test, t, after the answer u

number_of_test : (t : Bool) → 1 ≤ number_of (cond t (Ok tt) (Err NotFinite)) → number_of (cond t (Ok tt) (Err NotFinite)) ≤ 8 → ⊥
number_of_test true l h = omega arith
number_of_test false l h = omega arith

-- a refusal with a number below 9 came before the test
pub earlier : (u : Answer) (t : Bool) (v : Answer) → v ≡ first_of u (cond t (Ok tt) (Err NotFinite)) → 1 ≤ number_of v → number_of v ≤ 8 → v ≡ u
earlier u t v e l h = go (is_done u) refl
  where
    go : (d : Bool) → is_done u ≡ d → v ≡ u
    go false q = e ∙ stops u (cond t (Ok tt) (Err NotFinite)) q
    go true q =
        let s = e ∙ goes_on u (cond t (Ok tt) (Err NotFinite)) q in
        absurd (number_of_test t (subst (λ (w : Answer). 1 ≤ number_of w) s l) (subst (λ (w : Answer). number_of w ≤ 8) s h))

done_test : (t : Bool) → cond {A = Answer} t (Ok tt) (Err NotFinite) ≡ Ok tt → t ≡ true
done_test true e = refl
done_test false e = absurd (true≢false (sym (ap is_done e)))

nine_test : (t : Bool) → cond {A = Answer} t (Ok tt) (Err NotFinite) ≡ Err NotFinite → t ≡ false
nine_test true e = absurd (true≢false (ap is_done e))
nine_test false e = refl

-- the number 9
nine : {v : Answer} → v ≡ Err NotFinite → number_of v ≡ 9
nine e = ap number_of e

-- done: nothing was refused before the test, and it was passed
pub done_passed : (u : Answer) (t : Bool) (v : Answer) → v ≡ first_of u (cond t (Ok tt) (Err NotFinite)) → v ≡ Ok tt → (is_done u ≡ true) × (t ≡ true)
done_passed u t v e d = go (is_done u) refl
  where
    go : (b : Bool) → is_done u ≡ b → (is_done u ≡ true) × (t ≡ true)
    go true q = (q, done_test t (sym (e ∙ goes_on u (cond t (Ok tt) (Err NotFinite)) q) ∙ d))
    go false q = absurd (true≢false (sym (ap is_done (sym (e ∙ stops u (cond t (Ok tt) (Err NotFinite)) q) ∙ d)) ∙ q))

-- 9, where no test before this one can say 9: nothing was refused before it, and it was not passed
pub nine_failed : (u : Answer) (t : Bool) (v : Answer) → v ≡ first_of u (cond t (Ok tt) (Err NotFinite)) → number_of u ≤ 8 → v ≡ Err NotFinite → (is_done u ≡ true) × (t ≡ false)
nine_failed u t v e h d = go (is_done u) refl
  where
    go : (b : Bool) → is_done u ≡ b → (is_done u ≡ true) × (t ≡ false)
    go true q = (q, nine_test t (sym (e ∙ goes_on u (cond t (Ok tt) (Err NotFinite)) q) ∙ d))
    go false q = let s : number_of u ≡ 9 = nine (sym (e ∙ stops u (cond t (Ok tt) (Err NotFinite)) q) ∙ d) in absurd (omega arith)

-- ---- what the test says of the numbers x and the entries P

module _ (n : ℕ) (x : ℕ → Float) (P : ℕ → ℕ → Float) where
  -- passed, every number and every entry is finite ..
  pub finite_each : all_finite n x && entries_finite n P ≡ true → EachFinite n x P
  finite_each e = (
    holds_at n (λ r. finite (x r)) (first_holds (all_finite n x) (entries_finite n P) e),
    λ r c hr hc. holds_at n (λ k. finite (P r k)) (holds_at n (λ k. all_finite n (P k)) (second_holds (all_finite n x) (entries_finite n P) e) r hr) c hc,
  )

  -- .. and where they are it is passed
  pub each_finite : EachFinite n x P → all_finite n x && entries_finite n P ≡ true
  each_finite h =
      rw (holds_everywhere n (λ r. finite (x r)) h.0)
      (holds_everywhere n (λ r. all_finite n (P r)) (λ r hr. holds_everywhere n (λ c. finite (P r c)) (λ c hc. h.1 r c hr hc)))

  -- not passed, some number or some entry is not finite ..
  pub some_not : all_finite n x && entries_finite n P ≡ false → SomeNotFinite n x P
  some_not e = go (all_finite n x) refl
    where
      go : (b : Bool) → all_finite n x ≡ b → SomeNotFinite n x P
      go false q = inl (fails_at n (λ r. finite (x r)) q)
      go true q =
          let row = fails_at n (λ r. all_finite n (P r)) (rw q at e) in
          let entry = fails_at n (λ c. finite (P row.0 c)) row.2 in
          inr (row.0, entry.0, row.1, entry.1, entry.2)

  -- .. and where one is not it is not passed
  pub not_some : SomeNotFinite n x P → all_finite n x && entries_finite n P ≡ false
  not_some (inl w) = rw (fails_somewhere n (λ r. finite (x r)) w.0 w.1 w.2)
  not_some (inr w) =
      then_fails (all_finite n x) (entries_finite n P)
      (fails_somewhere n (λ r. all_finite n (P r)) w.0 w.2 (fails_somewhere n (λ c. finite (P w.0 c)) w.1 w.3 w.4))

-- the test goes by the numbers and entries within n alone
pub finite_alike : (n : ℕ) (x y : ℕ → Float) (P Q : ℕ → ℕ → Float) → ((r : ℕ) → r < n → x r ≡ y r) → SameEntries n n P Q → finite_answer n x P ≡ finite_answer n y Q
finite_alike n x y P Q hx hP =
    ap₂ (λ (a b : Bool). cond {A = Answer} (a && b) (Ok tt) (Err NotFinite))
    (every_same n (λ r. finite (x r)) (λ r. finite (y r)) (λ r hr. ap finite (hx r hr)))
    (every_same n (λ r. all_finite n (P r)) (λ r. all_finite n (Q r)) (λ r hr. every_same n (λ c. finite (P r c)) (λ c. finite (Q r c)) (λ c hc. ap finite (hP r c hr hc))))
