-- What it says that a call is not refused: both matrices lie in their buffers. Assumes nothing.
use mathlib.Core.Path.{◌≡◌}
use mathlib.Core.Bool.{true}
use mathlib.Core.List.{[], ◌∷◌}
use Prim.Native.Nat.{ℕ, ◌*◌, ◌≤◌}
use Rattle.answers.specs.Answers.{is_done}
use Rattle.answers.specs.Tests.{lent}
use Rattle.answers.proofs.Fit.{fit}
use Rattle.factors.specs.Inverted.{squares_answer}

-- two square matrices that are not refused with 1 or 2 lie in their buffers
pub squares_fit : (n la lb : ℕ) → is_done (squares_answer n la lb) ≡ true → (n * n ≤ la) × (n * n ≤ lb)
unfolding squares_answer
squares_fit n la lb e = let h = fit (n ∷ []) (lent (n * n) la ∷ lent (n * n) lb ∷ []) [] e in (h.1.0, h.1.1.0)
