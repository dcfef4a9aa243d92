-- What a call leaves, by its answer: a refused call leaves what was lent, and one that is done leaves the new numbers. Assumes nothing.
use mathlib.Core.Path.{◌≡◌, refl, sym, ap, ◌∙◌}
use mathlib.Core.Bool.{Bool, true, false, true≢false}
use Prim.Native.Nat.{◌≤◌}
use native.Mathlib.Omega.{arith}
use borrow.Author.Tests.{ne_eqb}
use Rattle.std.proofs.Common.{Ok, Err}
use Rattle.answers.specs.declared.Refusal.{Refusal}
use Rattle.answers.specs.declared.Refusal.TheVariants.{Size, Short, Range, Pivot, Line, Edition, NotFinite}
use Rattle.answers.specs.Answers.{number_of, is_done, settled, Answer}

-- an answer whose number is 0 is Ok
pub is_done_lem : (v : Answer) → is_done v ≡ true → v ≡ Ok tt
is_done_lem (Ok tt) e = refl
is_done_lem (Err (Size k)) e = absurd (true≢false (sym e))
is_done_lem (Err (Short k)) e = absurd (true≢false (sym e))
is_done_lem (Err (Range k)) e = absurd (true≢false (sym e))
is_done_lem (Err (Pivot k)) e = absurd (true≢false (sym e))
is_done_lem (Err (Line k)) e = absurd (true≢false (sym e))
is_done_lem (Err Edition) e = absurd (true≢false (sym e))
is_done_lem (Err NotFinite) e = absurd (true≢false (sym e))

-- a number that is not 0 is no "done"
pub not_done : (v : Answer) → 1 ≤ number_of v → is_done v ≡ false
not_done v h = ne_eqb (number_of v) 0 (λ (e : number_of v ≡ 0). omega arith)

-- The law behind every public function: a call refused with 1, 2 or 3 leaves each lent buffer as lent.
pub refused_keeps : {A : Type 0} (v : Answer) (new old : A) → 1 ≤ number_of v → number_of v ≤ 3 → settled v new old ≡ old
refused_keeps v new old l h = rw (not_done v l)

-- in the branch of a public function where `is_done` said b of its answer v, and b is true, the definition's answer w is done
pub accepted : {v w : Answer} {b : Bool} → v ≡ w → b ≡ is_done v → b ≡ true → is_done w ≡ true
accepted e d t = ap is_done (sym e) ∙ sym d ∙ t

-- a refusal is not done
pub err_not_done : (e : Refusal) → is_done (Err e) ≡ false
err_not_done (Size k) = refl
err_not_done (Short k) = refl
err_not_done (Range k) = refl
err_not_done (Pivot k) = refl
err_not_done (Line k) = refl
err_not_done Edition = refl
err_not_done NotFinite = refl
