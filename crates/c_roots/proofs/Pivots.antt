-- What the decomposition's refusal 4 carries is not cut in its code. Assumes nothing.
use mathlib.Core.List.{List, [], ◌∷◌}
use Prim.Native.Nat.{ℕ, ◌*◌, ◌≤◌}
use native.Mathlib.Omega.{arith}
use lib.ListN.{length}
use lib.Ieee.{Float, Format}
use Rattle.answers.specs.Answers.{Answer}
use Rattle.answers.specs.Tests.{lent}
use Rattle.answers.proofs.Fit.{fit}
use Rattle.grids.specs.Grid.{cell}
use Rattle.grids.specs.Cells.{square_answer}
use Rattle.factors.specs.Decomposition.{reached}
use Rattle.factors.specs.Decomposed.{Decomposed}
use Rattle.c_codes.specs.Code.{carried}
use Rattle.c_codes.proofs.Small.{call_small, pivot_small}

pub decomposed_small : {f : Format} {n : ℕ} {t t' : List Float} {v : Answer} → Decomposed f n t v t' → carried v ≤ 99
unfolding square_answer
decomposed_small {f} {n} {t} d =
    rw d.answer
    (pivot_small (square_answer n (length t)) (reached f n (cell n t)) n (call_small (n ∷ []) (lent (n * n) (length t) ∷ []) [] (omega arith) (omega arith) tt)
    (λ e. (fit (n ∷ []) (lent (n * n) (length t) ∷ []) [] e).0.1))
