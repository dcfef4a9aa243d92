-- A turn adds to each entry its next term, and where the loop ends all are added.
use Rattle.std.proofs.Common.{refl, ◌+◌, ◌*◌}
use Rattle.std.specs.Float.{binary32}
use Rattle.entries.proofs.Totals.{zero_bits, four_begun}
use Rattle.row_pairs.proofs.Pairs.{more_totals, all_totals, next_row, at_start_lem}
use Rattle.row_pairs.proofs.two_rows.Goals as goal

pub loop-k-init : goal.loop-k-init
loop-k-init c = (
  four_begun zero_bits zero_bits zero_bits zero_bits,
  four_begun zero_bits zero_bits zero_bits zero_bits,
  four_begun zero_bits zero_bits zero_bits zero_bits,
  four_begun zero_bits zero_bits zero_bits zero_bits,
  four_begun zero_bits zero_bits zero_bits zero_bits,
  four_begun zero_bits zero_bits zero_bits zero_bits,
  four_begun zero_bits zero_bits zero_bits zero_bits,
  four_begun zero_bits zero_bits zero_bits zero_bits,
)

pub loop-k-preserved : goal.loop-k-preserved
loop-k-preserved c =
    let m = c.args in
    let w = c.loop-k in
    let row = m.r * m.inner in
    let at = w.k * m.cols in
    let in_turn = c.loop-k-test.true in (
      more_totals binary32 m.inner m.cols m.a.now m.b.now row 0 w.k at w.t0 c.more-t0.result w.invariant.0 in_turn c.more-t0.ensures (at_start_lem at),
      more_totals binary32 m.inner m.cols m.a.now m.b.now row 4 w.k (at + 4) w.t1 c.more-t1.result w.invariant.1 in_turn c.more-t1.ensures refl,
      more_totals binary32 m.inner m.cols m.a.now m.b.now row 8 w.k (at + 8) w.t2 c.more-t2.result w.invariant.2 in_turn c.more-t2.ensures refl,
      more_totals binary32 m.inner m.cols m.a.now m.b.now row m.last w.k (at + m.last) w.t3 c.more-t3.result w.invariant.3 in_turn c.more-t3.ensures refl,
      more_totals binary32 m.inner m.cols m.a.now m.b.now (row + m.inner) 0 w.k at w.s0 c.more-s0.result w.invariant.4 in_turn c.more-s0.ensures (at_start_lem at),
      more_totals binary32 m.inner m.cols m.a.now m.b.now (row + m.inner) 4 w.k (at + 4) w.s1 c.more-s1.result w.invariant.5 in_turn c.more-s1.ensures refl,
      more_totals binary32 m.inner m.cols m.a.now m.b.now (row + m.inner) 8 w.k (at + 8) w.s2 c.more-s2.result w.invariant.6 in_turn c.more-s2.ensures refl,
      more_totals binary32 m.inner m.cols m.a.now m.b.now (row + m.inner) m.last w.k (at + m.last) w.s3 c.more-s3.result w.invariant.7 in_turn c.more-s3.ensures refl,
    )

pub returns : goal.returns
returns c =
    let m = c.args in
    let w = c.loop-k in
    let done = c.loop-k-test.false in
    let second = next_row m.r m.inner in
    record {
      first = (all_totals binary32 m.inner m.cols m.a.now m.b.now m.r 0 w.t0 refl w.invariant.0 done, all_totals binary32 m.inner m.cols m.a.now m.b.now m.r 4 w.t1 refl w.invariant.1 done, all_totals binary32 m.inner m.cols m.a.now m.b.now m.r 8 w.t2 refl w.invariant.2 done, all_totals binary32 m.inner m.cols m.a.now m.b.now m.r m.last w.t3 refl w.invariant.3 done);
      second = (all_totals binary32 m.inner m.cols m.a.now m.b.now (m.r + 1) 0 w.s0 second w.invariant.4 done, all_totals binary32 m.inner m.cols m.a.now m.b.now (m.r + 1) 4 w.s1 second w.invariant.5 done, all_totals binary32 m.inner m.cols m.a.now m.b.now (m.r + 1) 8 w.s2 second w.invariant.6 done, all_totals binary32 m.inner m.cols m.a.now m.b.now (m.r + 1) m.last w.s3 second w.invariant.7 done);
    }
