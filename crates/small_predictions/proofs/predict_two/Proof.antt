-- `predict_two` meets its contract: the operands are read before anything is stored, x is its entry by computation, and P and temp_P are by the law of two states, so that the four stores say
-- themselves what the buffers hold. Assumes nothing.
use native.Mathlib.Omega.{arith}
use lib.Ieee.{of_bits}
use Rattle.numbers.specs.Sums.{sum_from}
use Rattle.grids.specs.Grid.{run}
use Rattle.small_predictions.proofs.Two.{temp_left, p_left}
use Rattle.small_predictions.proofs.predict_two.Statement.{statement}
use Rattle.small_predictions.proofs.predict_two.Tie as tie

-- where the function began, from the last of P's numbers
abbrev start : tie.After-two_more-n11 → tie.Start
start c = c.before.before.before.before.before.before.before.before.before.before.before.before.before.before.before.before.before.before.before.before.before.before.before.before

returns : tie.Need-returns
unfolding run sum_from of_bits
returns c =
    let p = c.before.before in
    let temp = p.before.before.before.before in
    let predicted = temp.before.before.before.before in
    let x = predicted.before.before.before.before in
    let n = x.before.before in
    let m = (start n).args in (
      x.put_two.ensures,
      (
        predicted.put_two-2.ensures,
        (
          p_left m.a.now m.p.now m.q.now m.p.now _ p.put_four-2.ensures n.two_more-n00.ensures n.two_more-n01.ensures n.two_more-n10.ensures n.two_more-n11.ensures,
          temp_left m.a.now m.p.now m.temp.now _ temp.put_four.ensures,
        ),
      ),
    )

pub predict_two_spec : {M : Type 1} → statement M
predict_two_spec =
    tie.close
    (tie.spec
    (λ c. omega arith)
    (λ c. omega arith)
    (λ c. omega arith)
    (λ c. omega arith)
    (λ c. omega arith)
    (λ c. omega arith)
    (λ c. omega arith)
    (λ c. omega arith)
    (λ c. omega arith)
    (λ c. omega arith)
    (λ c. omega arith)
    (λ c. omega arith)
    (λ c. omega arith)
    (λ c. omega arith)
    (λ c κs. tt)
    (λ c κs. tt)
    (λ c κs. tt)
    (λ c κs. tt)
    (λ c κs. (start c.before).requires.0)
    (λ c κs. (start c.before.before.before.before.before).requires.4)
    (λ c κs. (start c.before.before.before.before.before.before.before.before.before).requires.5)
    (λ c κs. (start c.before.before.before.before.before.before.before.before.before.before.before.before.before).requires.2)
    (λ c. c.x-1.given)
    (λ c. c.p-1.given)
    (λ c. c.predicted-1.given)
    (λ c. c.temp-1.given)
    returns)
