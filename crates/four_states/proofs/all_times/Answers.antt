-- `all_times` meets its contract: it is so row by row, in halves. Assumes nothing.
use lib.Ieee.{of_bits}
use Rattle.four_values.specs.Products.{row_times}
use Rattle.four_values.proofs.Values.{sixteen_is}
use Rattle.four_states.specs.Steps.{all_times}
use Rattle.four_states.proofs.Rows.{row_of}
use Rattle.four_states.proofs.all_times.Goals as goal

pub returns : goal.returns
unfolding row_times all_times of_bits
returns c =
    let args = c.args in
    sixteen_is (row_of args.a.f0 args.p c.with_two-h0.ensures c.with_two-r0.ensures) (row_of args.a.f1 args.p c.with_two-h1.ensures c.with_two-r1.ensures) (row_of args.a.f2 args.p c.with_two-h2.ensures c.with_two-r2.ensures) (row_of args.a.f3 args.p c.with_two-h3.ensures c.with_two-r3.ensures)
