-- `times_plus` meets its contract: it is so row by row, in halves. Assumes nothing.
use mathlib.Core.Path.{ap, ◌∙◌}
use Prim.Native.Nat.{ℕ}
use lib.Ieee.{Float, of_bits, binary32, add}
use Rattle.side_by_side.specs.declared.Four.{Four}
use Rattle.four_values.specs.Values.{four, in_four}
use Rattle.four_values.specs.Products.{row_times}
use Rattle.four_values.proofs.Values.{four_is, sixteen_is}
use Rattle.four_states.specs.Steps.{all_times, all_plus}
use Rattle.four_states.proofs.Rows.{row_of}
use Rattle.four_states.proofs.times_plus.Goals as goal

-- four numbers and four others on top
abbrev sums : Four → Four → ℕ → Float
sums t q k = add binary32 (in_four t k) (in_four q k)

pub returns : goal.returns
unfolding row_times all_times all_plus of_bits
returns c =
    let args = c.args in
    sixteen_is
    (four_is _ (sums _ args.q.f0) c.plus.ensures ∙ ap (λ (t : Four). four (sums t args.q.f0)) (row_of args.a.f0 args.p c.with_two-h0.ensures c.with_two-r0.ensures))
    (four_is _ (sums _ args.q.f1) c.plus-2.ensures ∙ ap (λ (t : Four). four (sums t args.q.f1)) (row_of args.a.f1 args.p c.with_two-h1.ensures c.with_two-r1.ensures))
    (four_is _ (sums _ args.q.f2) c.plus-3.ensures ∙ ap (λ (t : Four). four (sums t args.q.f2)) (row_of args.a.f2 args.p c.with_two-h2.ensures c.with_two-r2.ensures))
    (four_is _ (sums _ args.q.f3) c.plus-4.ensures ∙ ap (λ (t : Four). four (sums t args.q.f3)) (row_of args.a.f3 args.p c.with_two-h3.ensures c.with_two-r3.ensures))
