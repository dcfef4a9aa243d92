-- `sums::triangle` meets its contract: ten products, each where its term lies. Assumes nothing.
use lib.Ieee.{binary32}
use Rattle.first_pass.proofs.Terms.{triangle_sums}
use Rattle.first_pass.proofs.sums.triangle.Goals as goal

pub returns : goal.returns
returns c =
    let m = c.args in
    let t = triangle_sums binary32 m.n m.l.now m.inv.now m.i m.j c.requires.0 in
    (t.0, t.1, t.2, t.3)
