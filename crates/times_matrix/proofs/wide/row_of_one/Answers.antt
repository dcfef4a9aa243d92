-- The four cells are the last four of the row.
use Rattle.std.proofs.Common.{◌*◌, arith}
use Rattle.std.specs.Float.{binary32}
use Rattle.grids.proofs.Loops.{begun}
use Rattle.grids.proofs.Overlap.{last_four}
use Rattle.entries.specs.Entries.{product}
use Rattle.times_matrix.proofs.wide.row_of_one.Goals as goal

pub returns : goal.returns
returns c =
    let m = c.args in
    last_four {at = m.r * m.cols} {g = product binary32 m.inner m.cols m.a.now m.b.now m.r} {last = 0} begun (omega arith) (omega arith) (omega arith) c.one_chunk.ensures c.put.ensures
