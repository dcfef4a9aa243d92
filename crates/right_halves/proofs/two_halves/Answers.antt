-- Each turn adds the next term to each of the sixteen totals, which begin at +0.
use Rattle.std.proofs.Common.{◌+◌, ◌*◌, refl}
use Rattle.std.specs.Float.{binary32}
use Rattle.entries.proofs.Totals.{zero_bits, four_begun}
use Rattle.row_pairs.proofs.Pairs.{more_totals, all_totals, next_row}
use Rattle.right_halves.proofs.two_halves.Goals as goal

pub loop-k-init : goal.loop-k-init
loop-k-init c =
    record {
      first = four_begun zero_bits zero_bits zero_bits zero_bits;
      first_last = four_begun zero_bits zero_bits zero_bits zero_bits;
      second = four_begun zero_bits zero_bits zero_bits zero_bits;
      second_last = four_begun zero_bits zero_bits zero_bits zero_bits;
    }

pub loop-k-preserved : goal.loop-k-preserved
loop-k-preserved c =
    let m = c.args in
    let w = c.loop-k in
    let row = m.r * m.inner in
    let at = w.k * m.cols in
    let in_turn = c.loop-k-test.true in record {
      first = more_totals binary32 m.inner m.cols m.a.now m.b.now row 8 w.k (at + 8) w.t0 c.more-t0.result w.invariant.first in_turn c.more-t0.ensures refl;
      first_last = more_totals binary32 m.inner m.cols m.a.now m.b.now row m.last w.k (at + m.last) w.t1 c.more-t1.result w.invariant.first_last in_turn c.more-t1.ensures refl;
      second = more_totals binary32 m.inner m.cols m.a.now m.b.now (row + m.inner) 8 w.k (at + 8) w.s0 c.more-s0.result w.invariant.second in_turn c.more-s0.ensures refl;
      second_last = more_totals binary32 m.inner m.cols m.a.now m.b.now (row + m.inner) m.last w.k (at + m.last) w.s1 c.more-s1.result w.invariant.second_last in_turn c.more-s1.ensures refl;
    }

pub returns-clause-first : goal.returns-clause-first
returns-clause-first c =
    let w = c.loop-k in
    let m = c.args in
    let done = c.loop-k-test.false in (
      all_totals binary32 m.inner m.cols m.a.now m.b.now m.r 8 w.t0 refl w.invariant.first done,
      all_totals binary32 m.inner m.cols m.a.now m.b.now m.r m.last w.t1 refl w.invariant.first_last done,
    )

pub returns-clause-second : goal.returns-clause-second
returns-clause-second c =
    let w = c.loop-k in
    let m = c.args in
    let done = c.loop-k-test.false in
    let below = next_row m.r m.inner in (
      all_totals binary32 m.inner m.cols m.a.now m.b.now (m.r + 1) 8 w.s0 below w.invariant.second done,
      all_totals binary32 m.inner m.cols m.a.now m.b.now (m.r + 1) m.last w.s1 below w.invariant.second_last done,
    )
