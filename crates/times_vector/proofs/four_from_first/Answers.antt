-- Each total begins with its first term; a turn adds to each its next, and where the loop ends all are added.
use Rattle.std.proofs.Common.{refl, sym, ◌∙◌, ◌*◌, get_or, add-zero}
use Rattle.std.specs.Float.{binary32, nan}
use Rattle.entries.proofs.Places.{rows}
use Rattle.entries.proofs.Totals.{left_at, begun_on, added_on, all_added_on}
use Rattle.times_vector.proofs.four_from_first.Goals as goal

pub loop-k-init : goal.loop-k-init
loop-k-init c =
    let m = c.args in
    let y = get_or m.x.now 0 nan in
    let u = c.times-t.ensures in
    let p = rows m.inner m.r 0 (m.r * m.inner) (sym (add-zero _)) in (
      begun_on c.requires.0 (u.0 ∙ left_at binary32 y m.a.now p.first),
      begun_on c.requires.0 (u.1 ∙ left_at binary32 y m.a.now p.second),
      begun_on c.requires.0 (u.2 ∙ left_at binary32 y m.a.now p.third),
      begun_on c.requires.0 (u.3 ∙ left_at binary32 y m.a.now p.fourth),
    )

pub loop-k-preserved : goal.loop-k-preserved
loop-k-preserved c =
    let m = c.args in
    let y = get_or m.x.now c.loop-k.k nan in
    let s = c.plus-t.ensures in
    let u = c.times.ensures in
    let v = c.loop-k.invariant in
    let in_turn = c.loop-k-test.true in
    let p = rows m.inner m.r c.loop-k.k _ refl in (
      added_on v.0 in_turn s.0 (u.0 ∙ left_at binary32 y m.a.now p.first),
      added_on v.1 in_turn s.1 (u.1 ∙ left_at binary32 y m.a.now p.second),
      added_on v.2 in_turn s.2 (u.2 ∙ left_at binary32 y m.a.now p.third),
      added_on v.3 in_turn s.3 (u.3 ∙ left_at binary32 y m.a.now p.fourth),
    )

pub returns : goal.returns
returns c =
    let v = c.loop-k.invariant in
    let done = c.loop-k-test.false in
    (all_added_on v.0 done, all_added_on v.1 done, all_added_on v.2 done, all_added_on v.3 done)
