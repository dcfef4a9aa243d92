-- A turn stores four numbers more, or one (`combined_more`), and where the loops end all are stored.
use Rattle.std.proofs.Common.{◌≡◌, ◌+◌, ◌*◌, ◌/◌, refl, arith}
use Rattle.std.specs.Float.{binary32}
use Rattle.grids.specs.Grid.{cell}
use Rattle.grids.proofs.Loops.{Writing, begun, all_written}
use Rattle.grids.proofs.Combined.{combined_more}
use Rattle.entries.specs.Entries.{product_t}
use Rattle.entries.proofs.Places.{rows_in}
use Rattle.times_transpose.proofs.each.each_of_row.Goals as goal

pub loop-q-init : goal.loop-q-init
loop-q-init g c = λ h said. begun

pub four_rows-t-requires : goal.four_rows-t-requires
four_rows-t-requires g c = omega (arith, c.requires.lent, rows_in c.args.cols c.args.inner (4 * c.loop-q.q) (omega arith))

pub loop-q-preserved : goal.loop-q-preserved
loop-q-preserved g c =
    λ h said.
    let m = c.args in
    let j = 4 * c.loop-q.q in
    let p = m.r * m.cols + j in
    let e = product_t binary32 m.inner m.a.now m.b.now m.r in
    let t = c.four_rows-t.ensures in
    let w1 : Writing (m.r * m.cols) m.cols (λ i. h (cell m.cols m.c.now m.r i) (e i)) m.c.now _ (j + 1) = combined_more h e p _ _ _ (λ i. refl) (c.loop-q.invariant h said) (omega arith) refl refl t.0 (said _ _ _ c.op.ensures) in
    let w2 : Writing (m.r * m.cols) m.cols (λ i. h (cell m.cols m.c.now m.r i) (e i)) m.c.now _ (j + 2) = combined_more h e (p + 1) _ _ _ (λ i. refl) w1 (omega arith) (omega arith) (omega arith) t.1 (said _ _ _ c.op-in-loop-q.ensures) in
    let w3 : Writing (m.r * m.cols) m.cols (λ i. h (cell m.cols m.c.now m.r i) (e i)) m.c.now _ (j + 3) = combined_more h e (p + 2) _ _ _ (λ i. refl) w2 (omega arith) (omega arith) (omega arith) t.2 (said _ _ _ c.op-in-loop-q-2.ensures) in
    combined_more h e (p + 3) _ _ _ (λ i. refl) w3 (omega arith) (omega arith) (omega arith) t.3 (said _ _ _ c.op-in-loop-q-3.ensures)

pub loop-j-init : goal.loop-j-init
loop-j-init g c = λ h said. let e : c.loop-q.q ≡ c.args.cols / 4 = omega arith in rw e at (c.loop-q.invariant h said)

pub loop-j-preserved : goal.loop-j-preserved
loop-j-preserved g c =
    λ h said.
    let m = c.args in
    combined_more h (product_t binary32 m.inner m.a.now m.b.now m.r) (m.r * m.cols + c.loop-j.j) _ _ _ (λ i. refl) (c.loop-j.invariant h said) c.loop-j-test.true refl refl c.row_total.ensures (said _ _ _ c.op-in-loop-j.ensures)

pub returns : goal.returns
returns g c = λ h said. all_written (c.loop-j.invariant h said) c.loop-j-test.false
