-- A turn adds to each entry its next term, and where the loop ends all are added.
use Rattle.std.proofs.Common.{refl, arith}
use Rattle.entries.proofs.Totals.{zero_bits, four_begun, four_in_row, all_four}
use Rattle.row_chunks.proofs.two_chunks.Goals as goal

pub loop-k-init : goal.loop-k-init
loop-k-init c = (
  four_begun zero_bits zero_bits zero_bits zero_bits,
  four_begun zero_bits zero_bits zero_bits zero_bits,
)

pub loop-k-preserved : goal.loop-k-preserved
loop-k-preserved c = (
  four_in_row c.args.cols c.loop-k.invariant.0 c.loop-k-test.true c.more-t0.ensures (omega arith),
  four_in_row c.args.cols c.loop-k.invariant.1 c.loop-k-test.true c.more-t1.ensures refl,
)

pub returns : goal.returns
returns c = (
  all_four c.loop-k.invariant.0 c.loop-k-test.false,
  all_four c.loop-k.invariant.1 c.loop-k-test.false,
)
