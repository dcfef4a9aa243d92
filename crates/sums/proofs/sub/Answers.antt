-- The tests are those of the definition, and they say that the matrices fit; the core's cells are those of the grid. Assumes nothing.
use Rattle.std.proofs.Common.{refl, sym, ◌∙◌, arith, length}
use Rattle.std.proofs.lemmas.Result.{err_from_is_err_and}
use Rattle.answers.proofs.Asked.{asked}
use Rattle.answers.proofs.Kept.{err_not_done}
use Rattle.grids.specs.Cells.{pair_answer}
use Rattle.grids.specs.Sums.{triple_answer}
use Rattle.grids.proofs.Grids.{grid_flat}
use Rattle.grids.proofs.Triples.{triple_fits}
use Rattle.sums.proofs.sub.Goals as goal

pub returns-in_err-then_matrix : goal.returns-in_err-then_matrix
unfolding pair_answer triple_answer
returns-in_err-then_matrix c =
    let p = err_from_is_err_and c.from_residual.result c.from_residual.ensures.1 in
    rw (p.1, p.2) (record { answer = asked _ c.pair-operands.ensures c.in_err-then_matrix.ensures; after = rw err_not_done })

pub overflow_mul-rows : goal.overflow_mul-rows
unfolding pair_answer triple_answer
overflow_mul-rows c =
    let a = c.args in let s = triple_fits a.rows a.cols (length a.a.now) (length a.b.now) (length a.c.now) (asked _ c.pair-operands.ensures c.in_ok-then_matrix.ensures) refl refl in omega arith

pub sub_cells-requires : goal.sub_cells-requires
unfolding pair_answer triple_answer
sub_cells-requires c =
    (triple_fits _ _ _ _ _ (asked _ c.pair-operands.ensures c.in_ok-then_matrix.ensures) refl refl).all_hold

pub returns : goal.returns
unfolding pair_answer triple_answer
returns c = record {
  answer = asked _ c.pair-operands.ensures c.in_ok-then_matrix.ensures;
  after = c.sub_cells.ensures ∙ sym (grid_flat _ _ _ _);
}
