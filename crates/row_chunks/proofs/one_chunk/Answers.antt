-- A turn adds to each entry its next term, and where the loop ends all are added.
use Rattle.std.proofs.Common.{arith}
use Rattle.entries.proofs.Totals.{zero_bits, four_begun, four_in_row, all_four}
use Rattle.row_chunks.proofs.one_chunk.Goals as goal

pub loop-k-init : goal.loop-k-init
loop-k-init c = four_begun zero_bits zero_bits zero_bits zero_bits

pub loop-k-preserved : goal.loop-k-preserved
loop-k-preserved c = four_in_row c.args.cols c.loop-k.invariant c.loop-k-test.true c.more-t.ensures (omega arith)

pub returns : goal.returns
returns c = all_four c.loop-k.invariant c.loop-k-test.false
