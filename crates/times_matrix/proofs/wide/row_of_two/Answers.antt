-- Two times four cells, the last at the row's right edge.
use Rattle.std.proofs.Common.{◌*◌, refl, arith}
use Rattle.std.specs.Float.{binary32}
use Rattle.grids.proofs.Loops.{Writing, begun}
use Rattle.grids.proofs.Turns.{four_more}
use Rattle.grids.proofs.Overlap.{last_four}
use Rattle.entries.specs.Entries.{product}
use Rattle.times_matrix.proofs.wide.row_of_two.Goals as goal

pub returns : goal.returns
returns c =
    let m = c.args in
    let t = c.two_chunks-t.ensures in
    let g = product binary32 m.inner m.cols m.a.now m.b.now m.r in
    let w4 : Writing (m.r * m.cols) m.cols g m.c.now _ 4 = four_more {j = 0} begun (omega arith) (omega arith) t.0 c.put.ensures in
    last_four w4 (omega arith) (omega arith) refl t.1 c.put-2.ensures
