-- `predict_p_cells` meets its contract: what each step leaves, by the law over the three writes. Assumes nothing.
use Rattle.filters.proofs.Writes.{p_written}
use borrow.Author.Rules.{rules}
use Rattle.predictions.proofs.predict_p_cells.Goals as goal

pub returns : goal.returns
returns c =
    let e = c.both_products.ensures in record {
      p = p_written _ c.args.n c.args.a.now c.args.p.now c.args.q.now c.args.temp.now _ _ _ c.requires.2 c.requires.4 e.temp e.p c.add_cells_a.ensures;
      temp = e.temp;
    }
