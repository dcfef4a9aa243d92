-- `gains` meets its contract: both matrices are made of the product's entries, which were just written to the array. Assumes nothing.
use native.Mathlib.Omega.{arith}
use lib.Ieee.{binary32}
use Rattle.entries.specs.Entries.{product}
use Rattle.three_solved.specs.Solved.{inverse_in}
use Rattle.three_gains.proofs.Laws.{rows_from, gains_from}
use Rattle.three_gains.proofs.gains.Goals as goal

pub returns : goal.returns
returns c =
    let m = c.args in
    let e = product binary32 m.n 4 m.p.now m.t.now in
    let made = c.four_columns.ensures in
    let both = c.put_gains.ensures in record {
      k = gains_from m.n e _ _ (omega (arith, c.requires.0)) made binary32 (inverse_in m.v) m.k.now both.k;
      pht = rows_from m.n e _ _ (omega (arith, c.requires.0)) made m.temp_pht.now both.pht;
    }
