-- A thin product, by where its right operand lies.
use Rattle.std.proofs.Common.{arith}
use Rattle.std.specs.Float.{binary32}
use Rattle.thin_products.proofs.Strides.{as_itself, itself_in}
use Rattle.times_matrix.proofs.mult_cells.Goals as goal

pub thin_cells-requires : goal.thin_cells-requires
thin_cells-requires c =
    let m = c.args in
    (c.requires.3, omega (arith, c.if-cols-ge4.false), omega arith, c.requires.0, itself_in m.inner m.cols m.b.now c.requires.1, c.requires.2)

pub returns-else-cols-ge4 : goal.returns-else-cols-ge4
returns-else-cols-ge4 c =
    let m = c.args in
    as_itself binary32 m.rows m.inner m.cols m.a.now m.b.now m.c.now c.thin_cells.ensures
