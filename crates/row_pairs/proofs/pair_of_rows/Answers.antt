-- Twice four times four cells, the last of each row at its right edge (`sixteen_put`).
use Rattle.std.proofs.Common.{◌+◌, ◌*◌, ◌∙◌, ap, refl}
use Rattle.std.specs.Float.{binary32}
use Rattle.grids.specs.Grid.{run}
use Rattle.entries.specs.Entries.{product}
use Rattle.row_pairs.proofs.Pairs.{next_row, sixteen_put}
use Rattle.row_pairs.proofs.pair_of_rows.Goals as goal

pub returns : goal.returns
returns c =
    let m = c.args in
    let t = c.two_rows-t in
    let g = product binary32 m.inner m.cols m.a.now m.b.now in
    let u = t.result.u in
    let v = t.result.v in
    let first =
    sixteen_put (m.r * m.cols) m.cols (g m.r) m.c.now u.f0 u.f1 u.f2 u.f3 c.requires.0 c.requires.1 refl t.ensures.first c.put.ensures c.put-2.ensures c.put-3.ensures c.put-4.ensures in
    let second =
    sixteen_put ((m.r + 1) * m.cols) m.cols (g (m.r + 1)) _ v.f0 v.f1 v.f2 v.f3 c.requires.0 c.requires.1 (next_row m.r m.cols) t.ensures.second c.put-5.ensures c.put-6.ensures c.put-7.ensures c.put-8.ensures in
    second ∙ ap (run ((m.r + 1) * m.cols) m.cols (g (m.r + 1))) first
