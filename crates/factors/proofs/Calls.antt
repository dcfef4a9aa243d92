-- What a call promises, from its gate's answer and from what the decomposition left and named. Assumes nothing.
use mathlib.Core.Path.{◌≡◌, refl, sym, ap, subst, ◌∙◌}
use mathlib.Core.Bool.{Bool, true, false, cond}
use mathlib.Core.List.{List, [], ◌∷◌}
use Prim.Native.Nat.{ℕ, ◌*◌, ◌<◌, ◌≤◌}
use native.Mathlib.Omega.{arith}
use borrow.Author.Tests.{lt-ltb, le-ltb}
use lib.Dec.{ltb}
use lib.ListN.{length}
use lib.Ieee.{Float, Format}
use Rattle.std.proofs.Common.{Ok, Err}
use Rattle.answers.specs.declared.Refusal.TheVariants.{Pivot}
use Rattle.answers.specs.Answers.{number_of, is_done, first_of, settled, Answer}
use Rattle.answers.specs.Tests.{lent}
use Rattle.answers.proofs.Fit.{fit}
use Rattle.answers.proofs.Kept.{is_done_lem}
use Rattle.grids.specs.Grid.{cell, grid}
use Rattle.grids.specs.Cells.{square_answer}
use Rattle.factors.specs.Decomposition.{reached, decomposed}
use Rattle.factors.specs.Decomposed.{pivot_answer, Decomposed}

-- the pivots alone are told by 4 or by done
pivot_number : (i : ℕ) (b : Bool) → 1 ≤ number_of (cond b (Err (Pivot i)) (Ok tt)) → number_of (cond b (Err (Pivot i)) (Ok tt)) ≤ 3 → ⊥
pivot_number i true l h = omega arith
pivot_number i false l h = omega arith

-- A call that says first what its gate g says, and then its pivots, was refused at the gate where its answer v has a number from 1 to 3.
pub refused_at_gate : (g : Answer) (i n : ℕ) (v : Answer) → v ≡ first_of g (pivot_answer i n) → 1 ≤ number_of v → number_of v ≤ 3 → is_done g ≡ false
refused_at_gate g i n v e l h = go (is_done g) refl
  where
    go : (b : Bool) → is_done g ≡ b → is_done g ≡ false
    go false q = q
    go true q =
        let s : v ≡ pivot_answer i n = rw q at e in
        absurd (pivot_number i (ltb i n) (subst (λ (w : Answer). 1 ≤ number_of w) s l) (subst (λ (w : Answer). number_of w ≤ 3) s h))

-- a square matrix that is not refused with 1 or 2 lies in its buffer
pub square_fits : (n len : ℕ) → is_done (square_answer n len) ≡ true → n * n ≤ len
unfolding square_answer
square_fits n len e = (fit (n ∷ []) (lent (n * n) len ∷ []) [] e).1.0

module _ (f : Format) (n : ℕ) (t : List Float) where
  -- refused with 1 or 2: nothing was written
  pub refused_early : (v : Answer) → v ≡ square_answer n (length t) → is_done v ≡ false → Decomposed f n t v t
  refused_early v e d = let w = ap is_done (sym e) ∙ d in record { answer = e ∙ simp w; after = simp w }

  module _ (t' : List Float) (i : ℕ) (done : is_done (square_answer n (length t)) ≡ true) (index : i ≡ reached f n (cell n t)) (left : t' ≡ grid n n (decomposed f n (cell n t)) t) where
    -- the buffer goes by the gate alone
    renewed : t' ≡ settled (square_answer n (length t)) (grid n n (decomposed f n (cell n t)) t) t
    renewed = rw done left

    -- the answer goes by the index
    answered : pivot_answer i n ≡ first_of (square_answer n (length t)) (pivot_answer (reached f n (cell n t)) n)
    answered = rw (done, index)

    -- refused with 4 at the pivot i
    pub refused_late : i < n → Decomposed f n t (Err (Pivot i)) t'
    refused_late h = record { answer = sym (simp (lt-ltb i n h)) ∙ answered; after = renewed }

    -- every pivot is taken
    pub all_taken : (v : Answer) → v ≡ square_answer n (length t) → n ≤ i → Decomposed f n t v t'
    all_taken v e h = record { answer = e ∙ is_done_lem _ done ∙ sym (simp (le-ltb i n h)) ∙ answered; after = renewed }
