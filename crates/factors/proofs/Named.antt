-- What an answer says of the pivots of the entries e, where it goes by the index that their decomposition reached: refusal 4 names the first that is not taken, and done says that all are.
-- By the laws of the first index that fails. Assumes nothing.
use mathlib.Core.Path.{◌≡◌, refl, sym, ap, ◌∙◌}
use mathlib.Core.Bool.{Bool, true, false, cond, true≢false}
use Prim.Native.Nat.{ℕ, ◌<◌, ◌≤◌}
use native.Mathlib.Omega.{arith}
use borrow.Author.Tests.{lt-ltb, le-ltb, ltb-true, ltb-false}
use lib.Dec.{ltb}
use lib.Ieee.{Float, Format}
use Rattle.std.proofs.Common.{Ok, Err}
use Rattle.answers.specs.declared.Refusal.TheVariants.{Pivot}
use Rattle.answers.specs.Answers.{is_done, first_of, Answer}
use Rattle.factors.specs.Pivots.{pivot_taken}
use Rattle.factors.specs.Decomposition.{pivot_at, reached, FirstRefused}
use Rattle.factors.specs.Decomposed.{pivot_answer}
use Rattle.factors.proofs.First.{first_is, first_before, first-none, first_found, first_all}

-- refusal 4 carries the index, and it is below n
named : (m n i : ℕ) (b : Bool) → ltb m n ≡ b → cond {A = Answer} b (Err (Pivot m)) (Ok tt) ≡ Err (Pivot i) → (m ≡ i) × (i < n)
named m n i true q e = let s : m ≡ i = cc in (s, omega (arith, ltb-true m n q))
named m n i false q e = let z : ◌≡◌ {A = ℕ} 0 1 = cc in absurd (omega arith)

-- done: no index below n is named
done_at : (m n : ℕ) (b : Bool) → ltb m n ≡ b → cond {A = Answer} b (Err (Pivot m)) (Ok tt) ≡ Ok tt → n ≤ m
done_at m n true q e = let z : ◌≡◌ {A = ℕ} 0 1 = cc in absurd (omega arith)
done_at m n false q e = ltb-false m n q

-- the first refusal is no refusal: the first answer is done
pub first_done : (g w : Answer) → first_of g w ≡ Ok tt → is_done g ≡ true
first_done g w e = go (is_done g) refl e
  where
    go : (b : Bool) → is_done g ≡ b → cond b w g ≡ Ok tt → is_done g ≡ true
    go true q e = q
    go false q e = absurd (true≢false (sym (ap is_done e) ∙ q))

module _ (f : Format) (n : ℕ) (e : ℕ → ℕ → Float) (v : Answer) (answered : v ≡ pivot_answer (reached f n e) n) where
  -- 4 with i where i is the index of the first pivot that is not taken ..
  pub names_first : (i : ℕ) → FirstRefused f n e i → v ≡ Err (Pivot i)
  names_first i r = answered ∙ rw (first_is (λ k. pivot_taken (pivot_at f e k)) n i r.within r.before r.here) (simp (lt-ltb i n r.within))

  -- .. and only there
  pub named_first : (i : ℕ) → v ≡ Err (Pivot i) → FirstRefused f n e i
  named_first i q =
      let z = named _ _ i _ refl (sym answered ∙ q) in
      let w = first_found (λ k. pivot_taken (pivot_at f e k)) n i z.1 z.0 in
      record { within = z.1; before = w.0; here = w.1 }

  -- 4 with an index that is not behind one whose pivot is not taken
  pub named_before : (i : ℕ) → i < n → pivot_taken (pivot_at f e i) ≡ false → (k : ℕ) × (k ≤ i) × (v ≡ Err (Pivot k))
  named_before i h b =
      let k = reached f n e in
      let l : k ≤ i = first_before (λ j. pivot_taken (pivot_at f e j)) n i h b in
      (k, l, answered ∙ rw (lt-ltb k n (omega arith)))

  -- done where every pivot is taken ..
  pub done_where_taken : ((k : ℕ) → k < n → pivot_taken (pivot_at f e k) ≡ true) → v ≡ Ok tt
  done_where_taken all = answered ∙ rw (first-none (λ k. pivot_taken (pivot_at f e k)) n all) (simp (le-ltb n n (omega arith)))

  -- where it is done no pivot stopped it
  pub done_reached : v ≡ Ok tt → n ≤ reached f n e
  done_reached d = done_at _ _ _ refl (sym answered ∙ d)

  -- .. and only there
  pub taken_where_done : v ≡ Ok tt → (k : ℕ) → k < n → pivot_taken (pivot_at f e k) ≡ true
  taken_where_done d = first_all (λ k. pivot_taken (pivot_at f e k)) n (done_reached d)
