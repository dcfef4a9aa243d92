-- `put_gains` meets its contract: a loop that writes a row of each of the two matrices in a turn. Assumes nothing.
use lib.Ieee.{binary32}
use Rattle.grids.proofs.Turns.{no_rows}
use Rattle.three_gains.proofs.Laws.{row_put, gain_put}
use Rattle.three_gains.proofs.put_gains.Goals as goal

pub loop-r-init : goal.loop-r-init
loop-r-init c = record { gain = no_rows; pht = no_rows }

pub loop-r-preserved : goal.loop-r-preserved
loop-r-preserved c =
    let m = c.args in
    let before = c.loop-r.invariant in
    let more = c.loop-r-test.true in record {
      gain = gain_put m.f.now binary32 m.v c.gain_row.result c.gain_row.ensures before.gain more c.put_some-in-loop-r.ensures;
      pht = row_put m.f.now before.pht more c.put_some.ensures;
    }
