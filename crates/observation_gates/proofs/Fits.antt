-- Tests one after the other, and that buffers which all fit pass theirs: each is one of the tests, and a call that passes them all is done. Assumes nothing.
use mathlib.Core.Path.{◌≡◌, refl, sym, ap, ◌∙◌}
use mathlib.Core.Bool.{Bool, true, false, ◌&&◌, true≢false}
use mathlib.Core.List.{List, [], ◌∷◌, ◌++◌}
use Prim.Native.Nat.{ℕ, ◌≤◌}
use borrow.Author.Tests.{eqb-true, leb-true, le-ltb}
use lib.Dec.{eqb, leb}
use Rattle.std.proofs.Common.{Ok}
use Rattle.answers.specs.Answers.{is_done, first_of, Answer}
use Rattle.answers.specs.Tests.{Lent, lent, call_answer}
use Rattle.answers.specs.Exactly.{All, holds}
use Rattle.answers.proofs.Fit.{fit}
use Rattle.answers.proofs.Table.{passed, passes}
use Rattle.answers.proofs.Kept.{is_done_lem}
use Rattle.filters.specs.Lent.{front}
use Rattle.observation_gates.specs.Fits.{all_fit}

-- Two tests after others: the first refusal of them all stays ..
pub after_two : (v u w₁ w₂ : Answer) {v' : Answer} → v' ≡ first_of (first_of v w₁) w₂ → v ≡ u → v' ≡ first_of (first_of u w₁) w₂
after_two v u w₁ w₂ e q = e ∙ ap (λ (x : Answer). first_of (first_of x w₁) w₂) q

-- .. so for three.
pub after_three : (v u w₁ w₂ w₃ : Answer) {v' : Answer} → v' ≡ first_of (first_of (first_of v w₁) w₂) w₃ → v ≡ u → v' ≡ first_of (first_of (first_of u w₁) w₂) w₃
after_three v u w₁ w₂ w₃ e q = e ∙ ap (λ (x : Answer). first_of (first_of (first_of x w₁) w₂) w₃) q

-- a conjunction goes by its parts
both : (a b : Bool) → (a && b) ≡ true → (a ≡ true) × (b ≡ true)
both true b e = (refl, e)
both false b e = absurd (true≢false (sym e))

-- buffers that all fit pass their tests
fit_all : (so : Bool) (bs : List Lent) → all_fit so bs ≡ true → (so ≡ true) × All holds bs
fit_all so [] e = (e, tt)
fit_all so (b ∷ bs) e =
    let h = fit_all (so && leb b.cells b.len) bs e in
    let p = both so (leb b.cells b.len) h.0 in
    (p.0, (simp (le-ltb b.len b.cells (leb-true b.cells b.len p.1)), h.1))

-- one more buffer that fits or not
pub too : {u v r : Bool} (w : Bool) → v ≡ u → r ≡ (v && w) → r ≡ (u && w)
too w e n = n ∙ ap (λ (b : Bool). b && w) e

-- Where the sizes, x, P and H pass, and the other buffers of a correction fit, the answer is done: h has that of the former, and w says all of it.
pub rest_passes :
    (n m lx lp lh lz : ℕ) (rest : List Lent) (h : Answer) (w : Bool) → h ≡ call_answer (n ∷ m ∷ []) (front n m lx lp lh) []
    → w ≡ (leb 2 m && (is_done h && all_fit true (lent m lz ∷ rest))) → w ≡ true
    → Ok tt ≡ call_answer (n ∷ m ∷ []) (front n m lx lp lh ++ lent m lz ∷ rest) []
rest_passes n m lx lp lh lz rest h w q e t =
    let p = both (is_done h) (all_fit true (lent m lz ∷ rest)) (both (leb 2 m) _ (sym e ∙ t)).1 in
    let f = passed (n ∷ m ∷ []) (front n m lx lp lh) [] (ap is_done (sym q) ∙ p.0) in
    sym (is_done_lem _ (passes (n ∷ m ∷ []) (front n m lx lp lh ++ lent m lz ∷ rest) [] f.0 (f.1.0, (f.1.1.0, (f.1.1.1.0, (fit_all true (lent m lz ∷ rest) p.1).1))) tt))

-- So sizes that pass are at most 16.
pub sizes_few : (n m lx lp lh : ℕ) (h : Answer) → h ≡ call_answer (n ∷ m ∷ []) (front n m lx lp lh) [] → is_done h ≡ true → (n ≤ 16) × (m ≤ 16)
sizes_few n m lx lp lh h q e = let s = (fit (n ∷ m ∷ []) (front n m lx lp lh) [] (ap is_done (sym q) ∙ e)).0 in (s.1, s.2.1)

-- Where there are one state and one observation and all twelve buffers fit, the answer is done: w says all of it.
pub ones_pass :
    (n m lx lp lh lz : ℕ) (rest : List Lent) (w : Bool) → w ≡ all_fit (eqb n 1 && eqb m 1) (front 1 1 lx lp lh ++ lent 1 lz ∷ rest) → w ≡ true
    → (n ≡ 1) × (m ≡ 1) × (is_done (call_answer (1 ∷ 1 ∷ []) (front 1 1 lx lp lh ++ lent 1 lz ∷ rest) []) ≡ true)
ones_pass n m lx lp lh lz rest w e t =
    let h = fit_all (eqb n 1 && eqb m 1) (front 1 1 lx lp lh ++ lent 1 lz ∷ rest) (sym e ∙ t) in
    let s = both (eqb n 1) (eqb m 1) h.0 in
    (eqb-true n 1 s.0, eqb-true m 1 s.1, passes (1 ∷ 1 ∷ []) (front 1 1 lx lp lh ++ lent 1 lz ∷ rest) [] (refl, (refl, tt)) h.1 tt)
