-- The code tells answers apart, and the refusal's number and what it carries can be read back from it. Assumes nothing.
use mathlib.Core.Path.{◌≡◌, refl, sym, ap, subst, ◌∙◌}
use mathlib.Core.Bool.{true}
use Prim.Native.Nat.{ℕ, zero, suc, ◌/◌, ◌%◌, ◌≤◌}
use native.Mathlib.Omega.{arith}
use Rattle.std.proofs.Common.{Ok, Err}
use Rattle.answers.specs.declared.Refusal.TheVariants.{Size, Short, Range, Pivot, Line, Edition, NotFinite}
use Rattle.answers.specs.Answers.{number_of, is_done, Answer}
use Rattle.answers.proofs.Kept.{is_done_lem}
use Rattle.c_codes.specs.Code.{carried, code_of, Told}

-- a refusal's number is at most 9, so no code is above 999
pub at_most_9 : (v : Answer) → number_of v ≤ 9
at_most_9 (Ok tt) = omega arith
at_most_9 (Err (Size k)) = omega arith
at_most_9 (Err (Short k)) = omega arith
at_most_9 (Err (Range k)) = omega arith
at_most_9 (Err (Pivot k)) = omega arith
at_most_9 (Err (Line k)) = omega arith
at_most_9 (Err Edition) = omega arith
at_most_9 (Err NotFinite) = omega arith

-- an answer is its number and what it carries
abbrev of_parts : ℕ → ℕ → Answer
of_parts zero k = Ok tt
of_parts (suc zero) k = Err (Size k)
of_parts (suc (suc zero)) k = Err (Short k)
of_parts (suc (suc (suc zero))) k = Err (Range k)
of_parts (suc (suc (suc (suc zero)))) k = Err (Pivot k)
of_parts (suc (suc (suc (suc (suc zero))))) k = Err (Line k)
of_parts (suc (suc (suc (suc (suc (suc zero)))))) k = Err Edition
of_parts (suc (suc (suc (suc (suc (suc (suc n))))))) k = Err NotFinite

parts : (v : Answer) → v ≡ of_parts (number_of v) (carried v)
parts (Ok tt) = refl
parts (Err (Size k)) = refl
parts (Err (Short k)) = refl
parts (Err (Range k)) = refl
parts (Err (Pivot k)) = refl
parts (Err (Line k)) = refl
parts (Err Edition) = refl
parts (Err NotFinite) = refl

same_parts : (v w : Answer) → number_of v ≡ number_of w → carried v ≡ carried w → v ≡ w
same_parts v w n k = parts v ∙ rw (n, k) (sym (parts w))

-- Answers that carry at most 99 have different codes where they differ.
pub code_tells : (v w : Answer) → carried v ≤ 99 → carried w ≤ 99 → code_of v ≡ code_of w → v ≡ w
unfolding code_of
code_tells v w hv hw e = same_parts v w (omega (arith, at_most_9 v, at_most_9 w)) (omega (arith, at_most_9 v, at_most_9 w))

-- Of such an answer, code / 100 is the refusal's number and code % 100 what it carries.
pub read_back : (v : Answer) → carried v ≤ 99 → (code_of v / 100 ≡ number_of v) × (code_of v % 100 ≡ carried v)
unfolding code_of
read_back v h = (omega arith, omega arith)

-- The code is 0 exactly where the call did its work.
pub zero_is_done : (v : Answer) → code_of v ≡ 0 → v ≡ Ok tt
unfolding code_of
zero_is_done v e = let z : number_of v ≡ 0 = omega arith in parts v ∙ rw z

pub done_is_zero : (v : Answer) → is_done v ≡ true → code_of v ≡ 0
unfolding code_of
done_is_zero v d = ap code_of (is_done_lem v d)

-- Nothing is lost by "some answer": where a promise is kept by one answer alone, the code is that answer's, and the promise is kept of it.
pub told_is : {P : Answer → Type 0} {r : ℕ} (w : Answer) → ((v : Answer) → P v → v ≡ w) → Told P r → (r ≡ code_of w) × P w
told_is {P = P} w only t = (t.code ∙ ap code_of (only t.answer t.kept), subst P (only t.answer t.kept) t.kept)

-- Two calls whose answers are equal say one code: with the uniqueness of what a function promises (as `predict_unique` of `filters`), two results of its exported form are equal, code and buffers.
pub same_code : {P Q : Answer → Type 0} {r s : ℕ} (t : Told P r) (q : Told Q s) → t.answer ≡ q.answer → r ≡ s
same_code t q e = t.code ∙ ap code_of e ∙ sym q.code
