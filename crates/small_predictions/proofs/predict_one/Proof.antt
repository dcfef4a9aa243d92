-- `predict_one` meets its contract: the operands are read before anything is stored, P is what `one_more` says, and each other number stored is its entry by computation. Assumes nothing.
use mathlib.Core.Path.{refl, ap}
use native.Mathlib.Omega.{arith}
use lib.Ieee.{of_bits}
use lib.ListN.{length-set, set}
use Rattle.numbers.specs.Sums.{sum_from}
use Rattle.grids.specs.Grid.{run, grid}
use Rattle.small_predictions.proofs.predict_one.Statement.{statement}
use Rattle.small_predictions.proofs.predict_one.Tie as tie

returns : tie.Need-returns
unfolding run grid sum_from of_bits
returns c = (refl, (refl, (ap (set c.args.p.now 0) c.one_more-n00.ensures, refl)))

pub predict_one_spec : {M : Type 1} → statement M
predict_one_spec =
    tie.close
    (tie.spec
    (λ c. omega arith)
    (λ c. omega arith)
    (λ c. omega arith)
    (λ c. omega arith)
    (λ c κs. tt)
    (λ c. omega arith)
    (λ c. omega arith)
    (λ c. omega arith)
    (λ c. omega arith)
    (λ c. simp length-set)
    (λ c. simp length-set)
    (λ c. simp length-set)
    (λ c. simp length-set)
    returns)
