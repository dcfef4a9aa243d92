-- A turn stores one row more, which is still as lent (`row_combined`), and where the loop ends all are stored.
use Rattle.std.specs.Float.{binary32}
use Rattle.grids.proofs.Turns.{no_rows, all_rows}
use Rattle.grids.proofs.Combined.{row_combined}
use Rattle.entries.specs.Entries.{product_t}
use Rattle.times_transpose.proofs.each.each_entry.Goals as goal

pub loop-r-init : goal.loop-r-init
loop-r-init g c = λ h said. no_rows

pub loop-r-preserved : goal.loop-r-preserved
loop-r-preserved g c =
    λ h said. let m = c.args in row_combined h (product_t binary32 m.inner m.a.now m.b.now) (c.loop-r.invariant h said) c.loop-r-test.true (c.each_of_row.ensures h said)

pub returns : goal.returns
returns g c = λ h said. all_rows (c.loop-r.invariant h said) c.loop-r-test.false
