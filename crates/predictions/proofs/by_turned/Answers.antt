-- `by_turned` meets its contract: A·P as its product leaves it, and the product with the transpose. Assumes nothing.
use lib.Ieee.{binary32}
use borrow.Author.Rules.{rules}
use Rattle.entries.proofs.Turned.{by_transpose}
use Rattle.predictions.proofs.by_turned.Goals as goal

pub returns : goal.returns
returns c =
    let m = c.args in
    let t = c.turn.ensures in record {
      temp = c.wide_cells.ensures;
      p = by_transpose binary32 m.n m.n m.n c.wide_cells.new.c m.a.now m.p.now _ _ _ t c.wide_cells-2.ensures c.requires.5;
      t = t;
    }
