-- The gate says that both cells are the buffer's. Assumes nothing.
use Rattle.std.proofs.lemmas.Result.{err_from_is_err_and}
use Rattle.std.proofs.Common.{refl, ◌∙◌, arith, length}
use Rattle.std.proofs.Math.ListN.{length-set}
use Rattle.answers.proofs.Kept.{err_not_done}
use Rattle.grids.proofs.Shapes.{both_fits, cell_of_square}
use Rattle.row_major.proofs.cell.set_symmetric.Goals as goal

pub returns-in_err-cell : goal.returns-in_err-cell
returns-in_err-cell c = let p = err_from_is_err_and c.from_residual.result c.from_residual.ensures.1 in rw (p.1, p.2) (record { answer = c.in_err-cell.ensures ∙ cell_of_square _ _ _ _; after = rw err_not_done })

pub overflow_mul-m : goal.overflow_mul-m
overflow_mul-m c = let a = c.args in let s = both_fits a.n (length a.m.now) a.row a.column c.in_ok-cell.ensures refl refl in omega arith

pub overflow_add-m : goal.overflow_add-m
overflow_add-m c = let a = c.args in let s = both_fits a.n (length a.m.now) a.row a.column c.in_ok-cell.ensures refl refl in omega arith

pub offset_bounds-m-row : goal.offset_bounds-m-row
offset_bounds-m-row c = let a = c.args in let s = both_fits a.n (length a.m.now) a.row a.column c.in_ok-cell.ensures refl refl in omega arith

pub bounds-m-row : goal.bounds-m-row
bounds-m-row c = let a = c.args in let s = both_fits a.n (length a.m.now) a.row a.column c.in_ok-cell.ensures refl refl in omega arith

pub overflow_mul-m-2 : goal.overflow_mul-m-2
overflow_mul-m-2 c = let a = c.args in let s = both_fits a.n (length a.m.now) a.row a.column c.in_ok-cell.ensures refl refl in omega arith

pub overflow_add-m-2 : goal.overflow_add-m-2
overflow_add-m-2 c = let a = c.args in let s = both_fits a.n (length a.m.now) a.row a.column c.in_ok-cell.ensures refl refl in omega arith

pub offset_bounds-m-column : goal.offset_bounds-m-column
offset_bounds-m-column c = let a = c.args in let s = both_fits a.n (length a.m.now) a.row a.column c.in_ok-cell.ensures refl refl in omega arith

pub bounds-m-column : goal.bounds-m-column
bounds-m-column c = let a = c.args in let s = both_fits a.n (length a.m.now) a.row a.column c.in_ok-cell.ensures refl refl in simp length-set (omega arith)

pub returns : goal.returns
returns c = record { answer = c.in_ok-cell.ensures ∙ cell_of_square _ _ _ _; after = refl }
