-- Four times four cells, the last at the right edge (`sixteen_put`).
use Rattle.std.specs.Float.{binary32}
use Rattle.grids.specs.Grid.{cell}
use Rattle.entries.specs.Entries.{times_x, numbers}
use Rattle.turned_vector.proofs.Chunks.{sixteen_put}
use Rattle.turned_vector.proofs.rowvector_turned.Goals as goal

pub returns : goal.returns
returns c =
    let m = c.args in
    let v = c.first_chunks-v in
    sixteen_put m.cols (times_x binary32 m.inner (λ j k. cell m.cols m.t.now k j) (numbers m.x.now)) m.c.now v.result.f0 v.result.f1 v.result.f2 v.result.f3 c.requires.1 c.requires.2 v.ensures c.put.ensures c.put-2.ensures c.put-3.ensures c.put-4.ensures
