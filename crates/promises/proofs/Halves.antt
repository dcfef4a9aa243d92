-- predict is predict_x and predict_p, in either order (R17). Neither is lent what the other writes,
-- so each is promised over the x, A, P and Q that were there before both, whichever comes first. Assumes nothing.
use mathlib.Core.Path.{◌≡◌, sym, ap, ◌∙◌}
use mathlib.Core.Bool.{true}
use mathlib.Core.List.{List, [], ◌∷◌}
use Prim.Native.Nat.{ℕ, ◌*◌}
use lib.ListN.{length}
use lib.Ieee.{Float, Format}
use Rattle.answers.specs.Answers.{is_done, Answer}
use Rattle.answers.specs.Tests.{Lent, lent}
use Rattle.answers.specs.Exactly.{All, holds}
use Rattle.answers.proofs.Table.{passed, passes}
use Rattle.filters.specs.Predicted.{predict_answer, predict_x_answer, predict_p_answer, Predicted, PredictedX, PredictedP}

-- predict leaves x' and P'; of the same x, A, P and Q, predict_x leaves x₁ and predict_p P₁
pub predict_leaves_what_its_halves_leave :
    {f : Format} {n : ℕ} {x A P Q px temp px₁ temp₁ : List Float} {v v₁ v₂ : Answer} {x' P' px' temp' x₁ px₁' P₁ temp₁' : List Float}
    → Predicted f n x A P Q px temp v x' P' px' temp' → is_done v ≡ true
    → PredictedX f n x A px₁ v₁ x₁ px₁' → is_done v₁ ≡ true
    → PredictedP f n A P Q temp₁ v₂ P₁ temp₁' → is_done v₂ ≡ true
    → (x' ≡ x₁) × (P' ≡ P₁)
predict_leaves_what_its_halves_leave h d hx dx hp dp = (rw (h.x_after, d, hx.x_after, dx), rw (h.p_after, d, hp.p_after, dp))

-- ---- with the same work buffers, predict is accepted exactly when both halves are

module _ {f : Format} {n : ℕ} {x A P Q px temp : List Float} {v v₁ v₂ : Answer} {x' P' px' temp' x₁ px₁' P₁ temp₁' : List Float}
    (whole : Predicted f n x A P Q px temp v x' P' px' temp') (first : PredictedX f n x A px v₁ x₁ px₁') (second : PredictedP f n A P Q temp v₂ P₁ temp₁') where
  abbrev lent_to_predict : List Lent
  lent_to_predict = lent n (length x) ∷ lent (n * n) (length A) ∷ lent (n * n) (length P) ∷ lent (n * n) (length Q) ∷ lent n (length px) ∷ lent (n * n) (length temp) ∷ []

  abbrev lent_to_predict_x : List Lent
  lent_to_predict_x = lent n (length x) ∷ lent (n * n) (length A) ∷ lent n (length px) ∷ []

  abbrev lent_to_predict_p : List Lent
  lent_to_predict_p = lent (n * n) (length A) ∷ lent (n * n) (length P) ∷ lent (n * n) (length Q) ∷ lent (n * n) (length temp) ∷ []

  apart : All holds lent_to_predict → All holds lent_to_predict_x × All holds lent_to_predict_p
  apart (hx, (hA, (hP, (hQ, (hpx, last))))) = ((hx, (hA, (hpx, tt))), (hA, (hP, (hQ, last))))

  together : All holds lent_to_predict_x → All holds lent_to_predict_p → All holds lent_to_predict
  together (hx, (hA, (hpx, none))) (_, (hP, (hQ, last))) = (hx, (hA, (hP, (hQ, (hpx, last)))))

  pub accepted_in_halves : is_done v ≡ true → (is_done v₁ ≡ true) × (is_done v₂ ≡ true)
  unfolding predict_answer predict_x_answer predict_p_answer
  accepted_in_halves d =
      let h = passed (n ∷ []) lent_to_predict [] (ap is_done (sym whole.answer) ∙ d) in
      let b = apart h.1 in
      (ap is_done first.answer ∙ passes (n ∷ []) lent_to_predict_x [] h.0 b.0 tt, ap is_done second.answer ∙ passes (n ∷ []) lent_to_predict_p [] h.0 b.1 tt)

  pub halves_accepted : is_done v₁ ≡ true → is_done v₂ ≡ true → is_done v ≡ true
  unfolding predict_answer predict_x_answer predict_p_answer
  halves_accepted dx dp =
      let h = passed (n ∷ []) lent_to_predict_x [] (ap is_done (sym first.answer) ∙ dx) in
      let k = passed (n ∷ []) lent_to_predict_p [] (ap is_done (sym second.answer) ∙ dp) in
      ap is_done whole.answer ∙ passes (n ∷ []) lent_to_predict [] h.0 (together h.1 k.1) tt
