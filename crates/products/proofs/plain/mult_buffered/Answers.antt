-- The tests are those of the definition, and they say that the buffers fit. Assumes nothing.
use Rattle.std.proofs.Common.{refl}
use Rattle.std.proofs.lemmas.Result.{err_from_is_err_and}
use Rattle.answers.proofs.Kept.{err_not_done}
use Rattle.entries.proofs.Shapes.{buffered_asked, buffered_fits}
use Rattle.products.proofs.plain.mult_buffered.Goals as goal

pub returns-in_err-then_buffer : goal.returns-in_err-then_buffer
returns-in_err-then_buffer c =
    let p = err_from_is_err_and c.from_residual.result c.from_residual.ensures.1 in
    rw (p.1, p.2) (record {
      answer = buffered_asked _ _ _ _ _ _ _ c.product-matrices.ensures c.in_err-then_buffer.ensures;
      after = rw err_not_done;
      auxiliary = rw err_not_done;
    })

pub mult_cells-requires : goal.mult_cells-requires
mult_cells-requires c =
    (buffered_fits _ _ _ _ _ _ _ (buffered_asked _ _ _ _ _ _ _ c.product-matrices.ensures c.in_ok-then_buffer.ensures) refl refl).0

pub copy_column-requires : goal.copy_column-requires
copy_column-requires c =
    (buffered_fits _ _ _ _ _ _ _ (buffered_asked _ _ _ _ _ _ _ c.product-matrices.ensures c.in_ok-then_buffer.ensures) refl refl).1

pub returns : goal.returns
returns c = record {
  answer = buffered_asked _ _ _ _ _ _ _ c.product-matrices.ensures c.in_ok-then_buffer.ensures;
  after = c.mult_cells.ensures;
  auxiliary = c.copy_column.ensures;
}
