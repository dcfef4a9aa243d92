-- The tests are those of the definition, and they say that the column lies in the matrix. Assumes nothing.
use Rattle.std.proofs.lemmas.Result.{err_from_is_err_and}
use Rattle.std.proofs.Common.{refl}
use Rattle.answers.proofs.Asked.{asked}
use Rattle.answers.proofs.Kept.{err_not_done}
use Rattle.grids.specs.Cells.{matrix_answer, column_copy_answer}
use Rattle.grids.proofs.Shapes.{column_fits}
use Rattle.row_major.proofs.copy.get_column_copy.Goals as goal

pub returns-in_err-then_place : goal.returns-in_err-then_place
unfolding matrix_answer column_copy_answer
returns-in_err-then_place c = let p = err_from_is_err_and c.from_residual.result c.from_residual.ensures.1 in rw (p.1, p.2) (record { answer = asked _ (asked _ c.matrix-held.ensures c.then_buffer-buffers.ensures) c.in_err-then_place.ensures; after = rw err_not_done })

pub copy_column-requires : goal.copy_column-requires
unfolding matrix_answer column_copy_answer
copy_column-requires c =
    column_fits _ _ _ _ _ (asked _ (asked _ c.matrix-held.ensures c.then_buffer-buffers.ensures) c.in_ok-then_place.ensures) refl refl

pub returns : goal.returns
unfolding matrix_answer column_copy_answer
returns c = record {
  answer = asked _ (asked _ c.matrix-held.ensures c.then_buffer-buffers.ensures) c.in_ok-then_place.ensures;
  after = c.copy_column.ensures;
}
