-- The one-state filter has the bits of the general filter at n = m = 1, of any call that keeps the general functions' promises.
-- At size 1 each sum has one term and each matrix one cell, so the general definitions unfold to the one-state filter's; the pivot's test and the last one are the only cases. Assumes nothing.
use mathlib.Core.Path.{◌≡◌, refl, sym, ap, ◌∙◌}
use mathlib.Core.Logic.{◌⊎◌, inl, inr}
use mathlib.Core.Bool.{Bool, true, false, cond, ◌&&◌, true≢false}
use mathlib.Core.List.{List, [], ◌∷◌}
use Prim.Native.Nat.{ℕ, ◌≤◌}
use native.Mathlib.Omega.{arith}
use lib.ListN.{length}
use lib.Ieee.{Float, Format, binary32}
use lib.Ieee.Scale.{finite}
use Rattle.std.proofs.Common.{Ok, Err}
use Rattle.answers.specs.declared.Refusal.TheVariants.{Pivot, NotFinite}
use Rattle.answers.specs.Answers.{is_done, first_of, settled, Answer}
use Rattle.answers.specs.Tests.{lent}
use Rattle.answers.proofs.Fit.{fit}
use Rattle.numbers.specs.Root.{sqrt_of}
use Rattle.numbers.specs.Sums.{sum_from}
use Rattle.numbers.specs.Finite.{every}
use Rattle.grids.specs.Grid.{cell, run, grid}
use Rattle.grids.proofs.Grids.{run-cell, grid-cell}
use Rattle.entries.specs.Entries.{numbers}
use Rattle.factors.specs.Pivots.{pivot_taken}
use Rattle.factors.specs.Decomposition.{less_dot, factor, first_not, decomposed}
use Rattle.factors.specs.Decomposed.{pivot_answer}
use Rattle.factors.specs.Inverse.{plus_sum, solved, back}
use Rattle.filters.specs.Prediction as general
use Rattle.filters.specs.Predicted.{predict_answer, Predicted}
use Rattle.filters.specs.Correction.{innovation_of, residual_of, gain_of}
use Rattle.filters.specs.Lent.{Buffers, correct_answer}
use Rattle.filters.specs.Corrected as observations
use Rattle.filters.proofs.Exactly.{past}
use Rattle.one_state.specs.declared.OneState.{OneState}
use Rattle.one_state.specs.declared.Corrected.TheVariants.{Refused}
use Rattle.one_state.specs.OneState.{timed, inverted, predicted_x, predicted_p, innovation, spread, gain, corrected_x, corrected_p, predicted, renewed, blinded, finite_xp, corrected}
use Rattle.one_state.specs.General.{front, Agrees}
use Rattle.one_state.proofs.Cases.{accepted, not_finite, refused}

-- ---- buffers of one number

-- the number that a call that is done wrote, as a vector of one and as a matrix of one cell
run-first : (v : Answer) (g : ℕ → Float) (l l' : List Float) → is_done v ≡ true → 1 ≤ length l → l' ≡ settled v (run 0 1 g l) l → front l' ≡ g 0
run-first v g l l' d h e = ap front (rw d at e) ∙ run-cell 0 1 g l 0 (omega arith) (omega arith)

grid-first : (v : Answer) (g : ℕ → ℕ → Float) (l l' : List Float) → is_done v ≡ true → 1 ≤ length l → l' ≡ settled v (grid 1 1 g l) l → front l' ≡ g 0 0
grid-first v g l l' d h e = ap front (rw d at e) ∙ grid-cell 1 1 g l 0 0 (omega arith) (omega arith) (omega arith)

-- ---- the prediction, over the format

module _ (f : Format) (x A P Q px temp : List Float) (v : Answer) (x' P' px' temp' : List Float) (call : Predicted f 1 x A P Q px temp v x' P' px' temp') (done : is_done v ≡ true) where
  -- the buffers that are read below have their number
  predict_fits : (1 ≤ length x) × (1 ≤ length P)
  unfolding predict_answer
  predict_fits =
      let all = lent 1 (length x) ∷ lent 1 (length A) ∷ lent 1 (length P) ∷ lent 1 (length Q) ∷ lent 1 (length px) ∷ lent 1 (length temp) ∷ [] in
      let h = fit (1 ∷ []) all [] (ap is_done (sym call.answer) ∙ done) in
      (h.1.0, h.1.1.1.0)

  -- x afterwards, and P
  pub predict_x_first : front x' ≡ predicted_x f (front A) (front x)
  unfolding sum_from
  predict_x_first = run-first v (general.predicted_x f 1 A x) x x' done predict_fits.0 call.x_after

  pub predict_p_first : front P' ≡ predicted_p f (front A) (front P) (front Q)
  unfolding sum_from
  predict_p_first = grid-first v (general.predicted_p f 1 A P Q) P P' done predict_fits.1 call.p_after

-- The prediction: where a record's numbers stand in front of the buffers, of any lengths, a general prediction that is done leaves the record's new x and p there.
pub predict_agrees :
    (s : OneState) (x A P Q px temp : List Float) (v : Answer) (x' P' px' temp' : List Float)
    → front x ≡ s.x → front A ≡ s.a → front P ≡ s.p → front Q ≡ s.q
    → Predicted binary32 1 x A P Q px temp v x' P' px' temp' → is_done v ≡ true
    → (front x' ≡ (predicted s).x) × (front P' ≡ (predicted s).p)
unfolding predicted
predict_agrees s x A P Q px temp v x' P' px' temp' hx ha hp hq call done = (
  predict_x_first binary32 x A P Q px temp v x' P' px' temp' call done ∙ rw (ha, hx),
  predict_p_first binary32 x A P Q px temp v x' P' px' temp' call done ∙ rw (ha, hp, hq),
)

-- ---- the correction, over the format

-- a pivot that is taken: the factor is its root
root_1 : (f : Format) (e : ℕ → ℕ → Float) → pivot_taken (e 0 0) ≡ true → decomposed f 1 e 0 0 ≡ sqrt_of f (e 0 0)
unfolding first_not factor less_dot
root_1 f e t = rw t

-- the gain, past the decomposition
gain_1 :
    (f : Format) (H P R i : ℕ → ℕ → Float) → pivot_taken (spread f (H 0 0) (P 0 0) (R 0 0)) ≡ true
    → gain_of f 1 1 H P R i 0 0 ≡ gain f (H 0 0) (P 0 0) (R 0 0)
unfolding sum_from plus_sum solved back
gain_1 f H P R i t = ap (λ (l : Float). timed f (timed f (P 0 0) (H 0 0)) (inverted f l)) (root_1 f (residual_of f 1 H P R) t)

-- the answer of the one pivot
answer_1 : (t : Bool) → pivot_answer (cond t 1 0) 1 ≡ cond t (Ok tt) (Err (Pivot 0))
answer_1 true = refl
answer_1 false = refl

module _ (f : Format) (b : Buffers) (v : Answer) (e : Buffers) (call : observations.Corrected f 1 1 b v e) (gate : is_done (correct_answer 1 1 b) ≡ true) where
  -- the buffers that are read below have their number
  correct_fits : (1 ≤ length b.x) × (1 ≤ length b.P) × (1 ≤ length b.y)
  unfolding correct_answer
  correct_fits =
      let rest =
      lent 1 (length b.H) ∷ lent 1 (length b.z) ∷ lent 1 (length b.R) ∷ lent 1 (length b.y) ∷ lent 1 (length b.S) ∷ lent 1 (length b.K)
      ∷ lent 1 (length b.s_inv) ∷ lent 1 (length b.HP) ∷ lent 1 (length b.PHt) ∷ lent 1 (length b.KHP) ∷ [] in
      let h = fit (1 ∷ 1 ∷ []) (lent 1 (length b.x) ∷ lent 1 (length b.P) ∷ rest) [] gate in
      (h.1.0, h.1.1.0, h.1.1.1.1.1.1.0)

  -- the buffers that the update reads
  abbrev given : Buffers
  given = observations.with_y b (observations.innovated f 1 1 b)

  -- S, the new x and the new p of the record that stands in front
  abbrev S : Float
  S = spread f (front b.H) (front b.P) (front b.R)

  abbrev x' : Float
  x' = corrected_x f (front b.x) (front b.P) (front b.H) (front b.R) (front b.z)

  abbrev p' : Float
  p' = corrected_p f (front b.P) (front b.H) (front b.R)

  -- the pivot's answer goes by the test on S
  pivot_answered : observations.pivots_answer f 1 1 given ≡ cond (pivot_taken S) (Ok tt) (Err (Pivot 0))
  unfolding first_not factor less_dot sum_from
  pivot_answered = answer_1 (pivot_taken S)

  -- and the call's by that, and then by the last test
  answered : v ≡ first_of (cond (pivot_taken S) (Ok tt) (Err (Pivot 0))) (observations.finite_answer 1 (observations.next_x f 1 1 given) (observations.next_p f 1 1 given))
  answered =
      past call.renewed gate
      ∙ ap (λ (u : Answer). first_of u (observations.finite_answer 1 (observations.next_x f 1 1 given) (observations.next_p f 1 1 given))) pivot_answered

  -- the innovation in y
  y_first : front (observations.innovated f 1 1 b) ≡ innovation f (front b.H) (front b.x) (front b.z)
  unfolding sum_from
  y_first = run-first (correct_answer 1 1 b) (innovation_of f 1 (cell 1 b.H) (numbers b.x) (numbers b.z)) b.y _ gate correct_fits.2 refl

  -- where S is taken: the gain, the new x and P
  module _ (taken : pivot_taken S ≡ true) where
    gain-first : observations.gain_in f 1 1 given 0 0 ≡ gain f (front b.H) (front b.P) (front b.R)
    gain-first = gain_1 f (cell 1 b.H) (cell 1 b.P) (cell 1 b.R) (cell 1 b.s_inv) taken

    next_x_lem : observations.next_x f 1 1 given 0 ≡ x'
    unfolding sum_from
    next_x_lem = rw (gain-first, y_first)

    next_p_lem : observations.next_p f 1 1 given 0 0 ≡ p'
    unfolding sum_from
    next_p_lem = rw gain-first

    -- the answer goes by the test on these
    tested : v ≡ cond (finite x' && finite p') (Ok tt) (Err NotFinite)
    unfolding every
    tested = answered ∙ rw (taken, next_x_lem, next_p_lem) refl

    -- done: x and P afterwards
    module _ (done : v ≡ Ok tt) where
      pub correct_x_first : front e.x ≡ x'
      correct_x_first = run-first v (observations.next_x f 1 1 given) b.x e.x (ap is_done done) correct_fits.0 call.renewed.x_after ∙ next_x_lem

      pub correct_p_first : front e.P ≡ p'
      correct_p_first = grid-first v (observations.next_p f 1 1 given) b.P e.P (ap is_done done) correct_fits.1 call.renewed.p_after ∙ next_p_lem

  -- refused, x and P stay
  stay : is_done v ≡ false → (e.x ≡ b.x) × (e.P ≡ b.P)
  stay d = (rw d at call.renewed.x_after, rw d at call.renewed.p_after)

-- ---- the correction of a record

-- The correction: where a record's numbers and the reading stand in front of the buffers, of any lengths, a general correction that is not refused with 1 or 2 agrees.
pub correct_agrees :
    (s : OneState) (z : Float) (b : Buffers) (v : Answer) (e : Buffers)
    → front b.x ≡ s.x → front b.P ≡ s.p → front b.H ≡ s.h → front b.R ≡ s.r → front b.z ≡ z
    → observations.Corrected binary32 1 1 b v e → is_done (correct_answer 1 1 b) ≡ true
    → Agrees s z b v e
correct_agrees s z b v e hx hp hh hr hz call gate = go (pivot_taken (spread binary32 s.h s.p s.r)) (finite_xp (renewed s z)) refl refl
  where
    -- S is the same number on both sides, and so are the new x and p
    there : (t : Bool) → pivot_taken (spread binary32 s.h s.p s.r) ≡ t → pivot_taken (S binary32 b v e call gate) ≡ t
    there t k = rw (hh, hp, hr) k

    there_too : (t : Bool) → finite_xp (renewed s z) ≡ t → finite (x' binary32 b v e call gate) && finite (p' binary32 b v e call gate) ≡ t
    there_too t k = rw (hx, hh, hp, hr, hz) k

    -- refused on both sides, with one answer
    both_refused : (w : Answer) → v ≡ w → is_done w ≡ false → corrected s z ≡ Refused (blinded s) w → (v ≡ Ok tt) ⊎ ((v ≡ Err (Pivot 0)) ⊎ (v ≡ Err NotFinite)) → Agrees s z b v e
    both_refused w q d k o =
        let no-done : is_done v ≡ false = ap is_done q ∙ d in
        let kept = stay binary32 b v e call gate no-done in
        record { done = λ t. absurd (true≢false (sym t ∙ no-done)); refused = λ _. (k ∙ ap (Refused (blinded s)) (sym q), kept.0, kept.1); only = o }

    go : (t u : Bool) → pivot_taken (spread binary32 s.h s.p s.r) ≡ t → finite_xp (renewed s z) ≡ u → Agrees s z b v e
    go false u k j = let q : v ≡ Err (Pivot 0) = answered binary32 b v e call gate ∙ rw (there false k) refl in both_refused (Err (Pivot 0)) q refl (refused s z k) (inr (inl q))
    go true false k j =
        let q : v ≡ Err NotFinite = tested binary32 b v e call gate (there true k) ∙ rw (there_too false j) refl in
        both_refused (Err NotFinite) q refl (not_finite s z k j) (inr (inr q))
    go true true k j =
        let t = there true k in
        let d : v ≡ Ok tt = tested binary32 b v e call gate t ∙ rw (there_too true j) refl in
        record {
          done = λ _. accepted s z k j ∙ rw (correct_x_first binary32 b v e call gate t d, correct_p_first binary32 b v e call gate t d, hx, hp, hh, hr, hz);
          refused = λ q. absurd (true≢false (sym (ap is_done d) ∙ q));
          only = inl d;
        }
