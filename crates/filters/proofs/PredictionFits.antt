-- What it says that a prediction is not refused: n is 1 to 16 and the buffers hold their matrices. Assumes nothing.
use mathlib.Core.Path.{◌≡◌}
use mathlib.Core.Bool.{true}
use mathlib.Core.List.{[], ◌∷◌}
use Prim.Native.Nat.{ℕ, ◌*◌, ◌≤◌}
use Rattle.answers.specs.Answers.{is_done}
use Rattle.answers.specs.Tests.{lent}
use Rattle.answers.proofs.Fit.{fit}
use Rattle.filters.specs.Predicted.{predict_x_answer, predict_p_answer, predict_answer}

pub record ShapeX (n x a px : ℕ) : Type 0 where
  pub least : 1 ≤ n
  pub holds_x : n ≤ x
  pub holds_a : n * n ≤ a
  pub holds_px : n ≤ px

pub record ShapeP (n a p q temp : ℕ) : Type 0 where
  pub least : 1 ≤ n
  pub most : n ≤ 16
  pub holds_a : n * n ≤ a
  pub holds_p : n * n ≤ p
  pub holds_q : n * n ≤ q
  pub holds_temp : n * n ≤ temp

pub x_fits : (n x a px : ℕ) → is_done (predict_x_answer n x a px) ≡ true → ShapeX n x a px
unfolding predict_x_answer
x_fits n x a px e =
    let h = fit (n ∷ []) (lent n x ∷ lent (n * n) a ∷ lent n px ∷ []) [] e in
    record { least = h.0.0; holds_x = h.1.0; holds_a = h.1.1.0; holds_px = h.1.1.1.0 }

pub p_fits : (n a p q temp : ℕ) → is_done (predict_p_answer n a p q temp) ≡ true → ShapeP n a p q temp
unfolding predict_p_answer
p_fits n a p q temp e =
    let h = fit (n ∷ []) (lent (n * n) a ∷ lent (n * n) p ∷ lent (n * n) q ∷ lent (n * n) temp ∷ []) [] e in
    record { least = h.0.0; most = h.0.1; holds_a = h.1.0; holds_p = h.1.1.0; holds_q = h.1.1.1.0; holds_temp = h.1.1.1.1.0 }

pub both_fit : (n x a p q px temp : ℕ) → is_done (predict_answer n x a p q px temp) ≡ true → ShapeX n x a px × ShapeP n a p q temp
unfolding predict_answer
both_fit n x a p q px temp e =
    let h = fit (n ∷ []) (lent n x ∷ lent (n * n) a ∷ lent (n * n) p ∷ lent (n * n) q ∷ lent n px ∷ lent (n * n) temp ∷ []) [] e in
    let b = h.1.1.1.1 in (
      record { least = h.0.0; holds_x = h.1.0; holds_a = h.1.1.0; holds_px = b.1.0 },
      record { least = h.0.0; most = h.0.1; holds_a = h.1.1.0; holds_p = h.1.1.1.0; holds_q = b.0; holds_temp = b.1.1.0 },
    )
