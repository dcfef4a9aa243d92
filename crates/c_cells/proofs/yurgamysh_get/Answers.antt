-- The number that `get` found is the cell's, and the code is 0. Assumes nothing.
use Rattle.c_cells.proofs.Reading.{found}
use Rattle.c_cells.proofs.yurgamysh_get.Goals as goal

pub returns-in-Ok : goal.returns-in-Ok
returns-in-Ok c =
    let a = c.args in
    found a.rows a.cols a.m.now a.row a.column a.value.now c.get.ensures c.in-Ok.is
