-- Each total begins with its first product; a turn adds to each its next, and where the loop ends all are added.
use Rattle.std.proofs.Common.{refl, ◌+◌, ◌*◌}
use Rattle.std.specs.Float.{binary32}
use Rattle.row_pairs.proofs.Pairs.{at_start_lem}
use Rattle.turned_vector.proofs.Chunks.{first_totals, more_totals, all_totals}
use Rattle.turned_vector.proofs.first_chunks.Goals as goal

pub loop-k-init : goal.loop-k-init
loop-k-init c =
    let m = c.args in
    let some = c.requires.0 in (
      first_totals binary32 m.inner m.cols m.t.now m.x.now 0 c.times-t0.result some c.times-t0.ensures,
      first_totals binary32 m.inner m.cols m.t.now m.x.now 4 c.times-t1.result some c.times-t1.ensures,
      first_totals binary32 m.inner m.cols m.t.now m.x.now 8 c.times-t2.result some c.times-t2.ensures,
      first_totals binary32 m.inner m.cols m.t.now m.x.now m.last c.times-t3.result some c.times-t3.ensures,
    )

pub loop-k-preserved : goal.loop-k-preserved
loop-k-preserved c =
    let w = c.loop-k in
    let m = c.args in
    let at = w.k * m.cols in
    let in_turn = c.loop-k-test.true in (
      more_totals binary32 m.inner m.cols m.t.now m.x.now 0 w.k at w.t0 c.more-t0.result w.invariant.0 in_turn c.more-t0.ensures (at_start_lem at),
      more_totals binary32 m.inner m.cols m.t.now m.x.now 4 w.k (at + 4) w.t1 c.more-t1.result w.invariant.1 in_turn c.more-t1.ensures refl,
      more_totals binary32 m.inner m.cols m.t.now m.x.now 8 w.k (at + 8) w.t2 c.more-t2.result w.invariant.2 in_turn c.more-t2.ensures refl,
      more_totals binary32 m.inner m.cols m.t.now m.x.now m.last w.k (at + m.last) w.t3 c.more-t3.result w.invariant.3 in_turn c.more-t3.ensures refl,
    )

pub returns : goal.returns
returns c =
    let w = c.loop-k in
    let m = c.args in
    let done = c.loop-k-test.false in (
      all_totals binary32 m.inner m.cols m.t.now m.x.now 0 w.t0 w.invariant.0 done,
      all_totals binary32 m.inner m.cols m.t.now m.x.now 4 w.t1 w.invariant.1 done,
      all_totals binary32 m.inner m.cols m.t.now m.x.now 8 w.t2 w.invariant.2 done,
      all_totals binary32 m.inner m.cols m.t.now m.x.now m.last w.t3 w.invariant.3 done,
    )
