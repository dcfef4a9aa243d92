-- A turn writes one number more, of which the sum is written out.
use Rattle.std.proofs.Common.{sym, zero-add, add-zero}
use Rattle.std.specs.Float.{binary32}
use Rattle.numbers.specs.Sums.{sum_from}
use Rattle.grids.proofs.Grids.{cell_more}
use Rattle.entries.specs.Entries.{row_product}
use Rattle.times_vector.proofs.by_six.Goals as goal

pub loop-r-preserved : goal.loop-r-preserved
unfolding sum_from
loop-r-preserved c = cell_more 0 c.loop-r.r c.loop-r.r (row_product binary32 6 c.args.a.now c.args.x.now) _ c.loop-r.c _ c.loop-r.invariant (sym (zero-add _)) (rw add-zero)
