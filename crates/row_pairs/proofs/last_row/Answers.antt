-- Four times four cells, the last at the row's right edge (`sixteen_put`).
use Rattle.std.proofs.Common.{◌*◌, refl}
use Rattle.std.specs.Float.{binary32}
use Rattle.entries.specs.Entries.{product}
use Rattle.row_pairs.proofs.Pairs.{sixteen_put}
use Rattle.row_pairs.proofs.last_row.Goals as goal

pub returns : goal.returns
returns c =
    let m = c.args in
    let t = c.four_chunks-t in
    sixteen_put (m.r * m.cols) m.cols (product binary32 m.inner m.cols m.a.now m.b.now m.r) m.c.now t.result.f0 t.result.f1 t.result.f2 t.result.f3 c.requires.0 c.requires.1 refl t.ensures c.put.ensures c.put-2.ensures c.put-3.ensures c.put-4.ensures
