-- A turn adds to each of the four its next term, and where the loop ends they are the entries.
use Rattle.std.proofs.Common.{refl}
use Rattle.entries.proofs.Places.{rows}
use Rattle.entries.proofs.Totals.{zero_bits, four_begun, four_added, all_four}
use Rattle.row_totals.proofs.four_rows.Goals as goal

pub loop-k-init : goal.loop-k-init
loop-k-init c = four_begun zero_bits zero_bits zero_bits zero_bits

pub loop-k-preserved : goal.loop-k-preserved
loop-k-preserved c = four_added c.loop-k.invariant c.loop-k-test.true c.plus-t.ensures c.times.ensures (rows c.args.inner c.args.j c.loop-k.k _ refl)

pub returns : goal.returns
returns c = all_four c.loop-k.invariant c.loop-k-test.false
