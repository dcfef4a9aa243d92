-- A turn stores four numbers more, or one (`combined_more`), and where the loops end all are stored.
use Rattle.std.proofs.Common.{◌≡◌, ◌+◌, ◌*◌, ◌/◌, refl, get_or, zero-add, sym, arith}
use Rattle.std.specs.Float.{binary32, nan}
use Rattle.grids.proofs.Loops.{Writing, begun, all_written}
use Rattle.entries.specs.Entries.{row_product}
use Rattle.entries.proofs.Places.{rows_in}
use Rattle.grids.proofs.Combined.{combined_more}
use Rattle.times_vector.proofs.each_row.Goals as goal

pub loop-q-init : goal.loop-q-init
loop-q-init g c = λ h said. begun

pub four_from_first-t-requires : goal.four_from_first-t-requires
four_from_first-t-requires g c = omega (arith, c.requires.lent, rows_in c.args.rows c.args.inner (4 * c.loop-q.q) (omega arith))

pub loop-q-preserved : goal.loop-q-preserved
loop-q-preserved g c =
    λ h said.
    let m = c.args in
    let r = 4 * c.loop-q.q in
    let e = row_product binary32 m.inner m.a.now m.x.now in
    let t = c.four_from_first-t.ensures in
    let w1 : Writing 0 m.rows (λ i. h (get_or m.c.now i nan) (row_product binary32 m.inner m.a.now m.x.now i)) m.c.now _ (r + 1) = combined_more h e r _ _ _ (λ i. rw zero-add) (c.loop-q.invariant h said) (omega arith) (sym (zero-add _)) refl t.0 (said _ _ _ c.op.ensures) in
    let w2 : Writing 0 m.rows (λ i. h (get_or m.c.now i nan) (row_product binary32 m.inner m.a.now m.x.now i)) m.c.now _ (r + 2) = combined_more h e (r + 1) _ _ _ (λ i. rw zero-add) w1 (omega arith) (sym (zero-add _)) (omega arith) t.1 (said _ _ _ c.op-in-loop-q.ensures) in
    let w3 : Writing 0 m.rows (λ i. h (get_or m.c.now i nan) (row_product binary32 m.inner m.a.now m.x.now i)) m.c.now _ (r + 3) = combined_more h e (r + 2) _ _ _ (λ i. rw zero-add) w2 (omega arith) (sym (zero-add _)) (omega arith) t.2 (said _ _ _ c.op-in-loop-q-2.ensures) in
    combined_more h e (r + 3) _ _ _ (λ i. rw zero-add) w3 (omega arith) (sym (zero-add _)) (omega arith) t.3 (said _ _ _ c.op-in-loop-q-3.ensures)

pub loop-r-init : goal.loop-r-init
loop-r-init g c = λ h said. let e : c.loop-q.q ≡ c.args.rows / 4 = omega arith in rw e at (c.loop-q.invariant h said)

pub loop-r-preserved : goal.loop-r-preserved
loop-r-preserved g c =
    λ h said.
    let m = c.args in
    combined_more h (row_product binary32 m.inner m.a.now m.x.now) c.loop-r.r _ _ _ (λ i. rw zero-add) (c.loop-r.invariant h said) c.loop-r-test.true (sym (zero-add _)) refl c.total_from_first.ensures (said _ _ _ c.op-in-loop-r.ensures)

pub returns : goal.returns
returns g c = λ h said. all_written (c.loop-r.invariant h said) c.loop-r-test.false
