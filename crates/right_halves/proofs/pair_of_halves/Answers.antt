-- `pair_of_halves` meets its contract: twice two times four cells, the last of each row at its right edge. Assumes nothing.
use mathlib.Core.Path.{refl, ap, ◌∙◌}
use Prim.Native.Nat.{◌+◌, ◌*◌}
use native.Mathlib.Omega.{arith}
use lib.Ieee.{binary32}
use Rattle.entries.specs.Entries.{product}
use Rattle.row_pairs.proofs.Pairs.{next_row}
use Rattle.right_halves.proofs.HalfRows.{half_put, half}
use Rattle.right_halves.proofs.pair_of_halves.Goals as goal

pub returns : goal.returns
returns c =
    let m = c.args in
    let t = c.two_halves-t in
    let g = product binary32 m.inner m.cols m.a.now m.b.now in
    let u = t.result.u in
    let v = t.result.v in
    let first =
    half_put (m.r * m.cols) m.cols (g m.r) m.c.now u.f0 u.f1 c.requires.0 c.requires.1 refl t.ensures.first
    c.put.ensures
    c.put-2.ensures
    (omega (arith, c.requires)) in
    let second =
    half_put ((m.r + 1) * m.cols) m.cols (g (m.r + 1)) _ v.f0 v.f1 c.requires.0 c.requires.1 (next_row m.r m.cols) t.ensures.second
    c.put-3.ensures
    c.put-4.ensures
    (omega (arith, c.requires)) in
    second ∙ ap (half m.cols g (m.r + 1)) first
