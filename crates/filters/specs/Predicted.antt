-- What the predictions promise (R6, R17), buffers in the order of R5: the answer, and every number of each buffer that they write. Definitions only.
use Rattle.std.specs.Prelude.{◌≡◌, List, [], ◌∷◌, ℕ, ◌*◌, length, Float}
use Rattle.std.specs.Float.{Format}
use Rattle.answers.specs.Answers.{settled, Answer}
use Rattle.answers.specs.Tests.{lent, call_answer}
use Rattle.grids.specs.Grid.{run, grid}
use Rattle.filters.specs.Prediction.{predicted_x, temp_p, predicted_p}

-- of x alone
unfoldable pub predict_x_answer : ℕ → ℕ → ℕ → ℕ → Answer
predict_x_answer n lx la lpx = call_answer (n ∷ []) (lent n lx ∷ lent (n * n) la ∷ lent n lpx ∷ []) []

-- of P alone
unfoldable pub predict_p_answer : ℕ → ℕ → ℕ → ℕ → ℕ → Answer
predict_p_answer n la lp lq lt = call_answer (n ∷ []) (lent (n * n) la ∷ lent (n * n) lp ∷ lent (n * n) lq ∷ lent (n * n) lt ∷ []) []

-- of both
unfoldable pub predict_answer : ℕ → ℕ → ℕ → ℕ → ℕ → ℕ → ℕ → Answer
predict_answer n lx la lp lq lpx lt =
    call_answer (n ∷ []) (lent n lx ∷ lent (n * n) la ∷ lent (n * n) lp ∷ lent (n * n) lq ∷ lent n lpx ∷ lent (n * n) lt ∷ []) []

-- predict_x
pub record PredictedX (f : Format) (n : ℕ) (x A px : List Float) (v : Answer) (x' px' : List Float) : Type 0 where
  pub answer : v ≡ predict_x_answer n (length x) (length A) (length px)
  pub x_after : x' ≡ settled v (run 0 n (predicted_x f n A x) x) x
  pub predicted_x_after : px' ≡ settled v (run 0 n (predicted_x f n A x) px) px

-- predict_p
pub record PredictedP (f : Format) (n : ℕ) (A P Q temp : List Float) (v : Answer) (P' temp' : List Float) : Type 0 where
  pub answer : v ≡ predict_p_answer n (length A) (length P) (length Q) (length temp)
  pub p_after : P' ≡ settled v (grid n n (predicted_p f n A P Q) P) P
  pub temp_p_after : temp' ≡ settled v (grid n n (temp_p f n A P) temp) temp

-- predict: both
pub record Predicted (f : Format) (n : ℕ) (x A P Q px temp : List Float) (v : Answer) (x' P' px' temp' : List Float) : Type 0 where
  pub answer : v ≡ predict_answer n (length x) (length A) (length P) (length Q) (length px) (length temp)
  pub x_after : x' ≡ settled v (run 0 n (predicted_x f n A x) x) x
  pub p_after : P' ≡ settled v (grid n n (predicted_p f n A P Q) P) P
  pub predicted_x_after : px' ≡ settled v (run 0 n (predicted_x f n A x) px) px
  pub temp_p_after : temp' ≡ settled v (grid n n (temp_p f n A P) temp) temp
