-- The tests are those of the definition, and they say that the row lies in the matrix: the part that begins at row·cols is the row. Assumes nothing.
use Rattle.std.proofs.lemmas.Result.{err_from_is_err_and}
use Rattle.std.proofs.Common.{refl, ◌∙◌, ◌*◌, arith, length}
use Rattle.answers.proofs.Asked.{asked}
use Rattle.answers.proofs.Kept.{err_not_done}
use Rattle.grids.specs.Cells.{matrix_answer, row_copy_answer}
use Rattle.grids.proofs.Grids.{part_length, run_part}
use Rattle.grids.proofs.Shapes.{row_fits}
use Rattle.row_major.proofs.copy.get_row_copy.Goals as goal

pub returns-in_err-then_place : goal.returns-in_err-then_place
unfolding matrix_answer row_copy_answer
returns-in_err-then_place c = let p = err_from_is_err_and c.from_residual.result c.from_residual.ensures.1 in rw (p.1, p.2) (record { answer = asked _ (asked _ c.matrix-held.ensures c.then_buffer-buffers.ensures) c.in_err-then_place.ensures; after = rw err_not_done })

pub overflow_mul-at : goal.overflow_mul-at
unfolding matrix_answer row_copy_answer
overflow_mul-at c =
    let a = c.args in let s = row_fits a.rows a.cols (length a.m.now) (length a.row_data.now) a.row (asked _ (asked _ c.matrix-held.ensures c.then_buffer-buffers.ensures) c.in_ok-then_place.ensures) refl refl in omega arith

pub offset_bounds-m-at : goal.offset_bounds-m-at
unfolding matrix_answer row_copy_answer
offset_bounds-m-at c =
    let a = c.args in let s = row_fits a.rows a.cols (length a.m.now) (length a.row_data.now) a.row (asked _ (asked _ c.matrix-held.ensures c.then_buffer-buffers.ensures) c.in_ok-then_place.ensures) refl refl in omega arith

pub slice_bounds-copy_cells-count : goal.slice_bounds-copy_cells-count
unfolding matrix_answer row_copy_answer
slice_bounds-copy_cells-count c =
    let a = c.args in let s = row_fits a.rows a.cols (length a.m.now) (length a.row_data.now) a.row (asked _ (asked _ c.matrix-held.ensures c.then_buffer-buffers.ensures) c.in_ok-then_place.ensures) refl refl in omega arith

pub slice_bounds-copy_cells-start : goal.slice_bounds-copy_cells-start
unfolding matrix_answer row_copy_answer
slice_bounds-copy_cells-start c =
    let a = c.args in let s = row_fits a.rows a.cols (length a.m.now) (length a.row_data.now) a.row (asked _ (asked _ c.matrix-held.ensures c.then_buffer-buffers.ensures) c.in_ok-then_place.ensures) refl refl in omega arith

pub copy_cells-requires : goal.copy_cells-requires
unfolding matrix_answer row_copy_answer
copy_cells-requires c =
    let a = c.args in let s = row_fits a.rows a.cols (length a.m.now) (length a.row_data.now) a.row (asked _ (asked _ c.matrix-held.ensures c.then_buffer-buffers.ensures) c.in_ok-then_place.ensures) refl refl in
    (simp part_length (omega arith), s.into_holds)

pub returns : goal.returns
unfolding matrix_answer row_copy_answer
returns c = record {
  answer = asked _ (asked _ c.matrix-held.ensures c.then_buffer-buffers.ensures) c.in_ok-then_place.ensures;
  after = c.copy_cells.ensures ∙ run_part (c.args.row * c.args.cols) c.args.cols c.args.m.now c.args.row_data.now;
}
