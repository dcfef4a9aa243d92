-- `predict_four` meets its contract: the operands are read before anything is stored, and what is stored is made of them step by step (`proofs/Whole.antt`). Assumes nothing.
use Rattle.grids.specs.Grid.{cell, run}
use Rattle.entries.specs.Entries.{numbers}
use Rattle.four_values.proofs.Values.{four_is}
use Rattle.four_states.proofs.Whole.{x_left, temp_left, p_left}
use Rattle.four_states.proofs.predict_four.Goals as goal

pub returns : goal.returns
unfolding run
returns c =
    let args = c.args in
    let A = cell 4 args.a.now in
    let P = cell 4 args.p.now in
    let v = four_is _ (numbers args.x.now) c.read.ensures in record {
      x = x_left A c.read_sixteen-m.ensures (numbers args.x.now) v c.all_on-next.ensures args.x.now c.put.ensures;
      predicted = x_left A c.read_sixteen-m.ensures (numbers args.x.now) v c.all_on-next.ensures args.predicted.now c.put-2.ensures;
      p = p_left A c.read_sixteen-m.ensures P c.read_sixteen.ensures c.all_times-t.ensures (cell 4 args.q.now) c.turned.ensures c.read_sixteen-2.ensures c.times_plus-n.ensures args.p.now c.put_sixteen-2.ensures;
      temp = temp_left A c.read_sixteen-m.ensures P c.read_sixteen.ensures c.all_times-t.ensures args.temp.now c.put_sixteen.ensures;
    }
