-- `predict_x_cells` meets its contract: A·x is written to predicted_x, and read back from there. Assumes nothing.
use Rattle.filters.proofs.Writes.{copied}
use borrow.Author.Rules.{rules}
use Rattle.predictions.proofs.predict_x_cells.Goals as goal

pub returns : goal.returns
returns c = record {
  x = copied c.args.n _ c.args.x.now c.args.predicted.now _ _ c.requires.3 c.rowvector_cells.ensures c.copy_cells.ensures;
  predicted = c.rowvector_cells.ensures;
}
