-- The gate says that the cell is one of the buffer's. Assumes nothing.
use Rattle.std.proofs.Common.{refl, arith, length}
use Rattle.grids.proofs.Shapes.{cell_fits}
use Rattle.row_major.proofs.cell.get.Goals as goal

pub overflow_mul-result : goal.overflow_mul-result
overflow_mul-result c = let a = c.args in let s = cell_fits a.rows a.cols (length a.m.now) a.row a.column c.in_ok-cell.ensures refl refl in omega arith

pub overflow_add-result : goal.overflow_add-result
overflow_add-result c = let a = c.args in let s = cell_fits a.rows a.cols (length a.m.now) a.row a.column c.in_ok-cell.ensures refl refl in omega arith

pub offset_bounds-m-row : goal.offset_bounds-m-row
offset_bounds-m-row c = let a = c.args in let s = cell_fits a.rows a.cols (length a.m.now) a.row a.column c.in_ok-cell.ensures refl refl in omega arith

pub bounds-m-row : goal.bounds-m-row
bounds-m-row c = let a = c.args in let s = cell_fits a.rows a.cols (length a.m.now) a.row a.column c.in_ok-cell.ensures refl refl in omega arith
