-- A prediction does not mend a filter that is spoilt: each entry of A·x has a term of each number of x, and each entry of A·P·Aᵀ one of each entry of P, and a product with a factor that is not finite
-- is not finite, whatever the other is. Assumes nothing.
use mathlib.Core.Path.{◌≡◌, sym, ap, ◌∙◌}
use mathlib.Core.Logic.{inl, inr}
use mathlib.Core.Bool.{true, false}
use mathlib.Core.List.{List, [], ◌∷◌}
use Prim.Native.Nat.{ℕ, ◌*◌, ◌<◌}
use lib.ListN.{length}
use lib.Ieee.{Float, Format}
use lib.Ieee.Scale.{finite}
use Rattle.answers.specs.Answers.{is_done, Answer}
use Rattle.answers.specs.Tests.{lent}
use Rattle.answers.proofs.Fit.{fit}
use Rattle.numbers.specs.Sums.{plus0, products}
use Rattle.numbers.proofs.NotFinite.{not_finite_plus, not_finite_times, times_not_finite, term_not_finite, first_not_finite}
use Rattle.grids.specs.Grid.{cell}
use Rattle.entries.specs.Entries.{times_t, numbers}
use Rattle.entries.proofs.Written.{written, front-cell}
use Rattle.filters.specs.Prediction.{predicted_x, temp_p, predicted_p}
use Rattle.filters.specs.Predicted.{predict_answer, Predicted}
use Rattle.filters.specs.Outcomes.{HeldNotFinite}

module _ (f : Format) (n : ℕ) (A : List Float) where
  predicted_x_lem : (x : List Float) (i r : ℕ) → i < n → finite (numbers x i) ≡ false → finite (predicted_x f n A x r) ≡ false
  predicted_x_lem x i r h bad = first_not_finite f (products f (cell n A r) (numbers x)) n i h (times_not_finite f (cell n A r i) (numbers x i) bad)

  predicted_p_lem : (P Q : List Float) (i j r c : ℕ) → i < n → j < n → finite (cell n P i j) ≡ false → finite (predicted_p f n A P Q r c) ≡ false
  predicted_p_lem P Q i j r c hi hj bad =
      not_finite_plus f (times_t f n (temp_p f n A P) (cell n A) r c) (cell n Q r c)
      (term_not_finite f plus0 (products f (temp_p f n A P r) (cell n A c)) n j hj
      (not_finite_times f (temp_p f n A P r j) (cell n A c j)
      (term_not_finite f plus0 (products f (cell n A r) (λ k. cell n P k j)) n i hi (times_not_finite f (cell n A r i) (cell n P i j) bad))))

-- Whatever A and Q are, a prediction of a spoilt filter that is done leaves it spoilt.
pub predict_spoilt : {f : Format} {n : ℕ} {x A P Q px temp x' P' px' temp' : List Float} {v : Answer} → Predicted f n x A P Q px temp v x' P' px' temp' → is_done v ≡ true
    → HeldNotFinite n x P → HeldNotFinite n x' P'
unfolding predict_answer
predict_spoilt {f} {n} {x} {A} {P} {Q} {px} {temp} {x'} {P'} call done bad =
    let all = lent n (length x) ∷ lent (n * n) (length A) ∷ lent (n * n) (length P) ∷ lent (n * n) (length Q) ∷ lent n (length px) ∷ lent (n * n) (length temp) ∷ [] in
    let h = (fit (n ∷ []) all [] (ap is_done (sym call.answer) ∙ done)).1 in
    elim bad [
      | inl w ↦ inl (
        w.0,
        w.1,
        ap finite (front-cell n (predicted_x f n A x) x x' w.0 w.1 h.0 (rw done at call.x_after)) ∙ predicted_x_lem f n A x w.0 w.0 w.1 w.2,
      )
      | inr w ↦ inr (
        w.0,
        w.1,
        w.2,
        w.3,
        ap finite (written n n (predicted_p f n A P Q) P P' h.1.1.0 (rw done at call.p_after) w.0 w.1 w.2 w.3)
            ∙ predicted_p_lem f n A P Q w.0 w.1 w.0 w.1 w.2 w.3 w.4,
      )
    ]
