-- What it says that a call on three matrices of one shape is not refused: their product of sizes is small, and the buffers hold them. Assumes nothing.
use mathlib.Core.Path.{◌≡◌}
use mathlib.Core.Bool.{Bool, true}
use mathlib.Core.List.{[], ◌∷◌}
use Prim.Native.Nat.{ℕ, ◌*◌, ◌≤◌}
use Rattle.answers.specs.Answers.{is_done, Answer}
use Rattle.answers.specs.Tests.{lent}
use Rattle.answers.proofs.Fit.{fit}
use Rattle.answers.proofs.Kept.{accepted}
use Rattle.answers.proofs.Shorter.{few}
use Rattle.grids.specs.Sums.{triple_answer}

-- three matrices of rows by cols, in buffers of la, lb and lc numbers
pub record Three (rows cols la lb lc : ℕ) : Type 0 where
  pub cells_few : rows * cols ≤ 256
  pub all_hold : (rows * cols ≤ la) × (rows * cols ≤ lb) × (rows * cols ≤ lc)

-- Where the answer for three matrices is done, each buffer holds its own.
pub triple_fits : (rows cols la lb lc : ℕ) {v : Answer} {b : Bool} → v ≡ triple_answer rows cols la lb lc → b ≡ is_done v → b ≡ true → Three rows cols la lb lc
unfolding triple_answer
triple_fits rows cols la lb lc q d e =
    let h = fit (rows ∷ cols ∷ []) (lent (rows * cols) la ∷ lent (rows * cols) lb ∷ lent (rows * cols) lc ∷ []) [] (accepted q d e) in
    record { cells_few = few rows cols h.0.1 h.0.2.1; all_hold = (h.1.0, h.1.1.0, h.1.1.1.0) }
