-- A wide product by the turned operand, a thin one by where it lies.
use Rattle.std.proofs.Common.{arith}
use native.Mathlib.Nat.{mul-le-mul}
use Rattle.std.specs.Float.{binary32}
use Rattle.thin_products.proofs.Strides.{as_transpose, transpose_in}
use Rattle.times_transpose.proofs.stored.transb_cells.Goals as goal

pub turned_cells-requires : goal.turned_cells-requires
turned_cells-requires c =
    let g = c.requires in
    (c.if-cols-ge4.true, g.4, mul-le-mul g.4 g.5, g.0, g.1, g.2)

pub thin_cells-requires : goal.thin_cells-requires
thin_cells-requires c =
    let m = c.args in
    let g = c.requires in
    (g.3, omega (arith, c.if-cols-ge4.false), g.5, g.0, transpose_in m.inner m.cols m.b.now g.1, g.2)

pub returns-else-cols-ge4 : goal.returns-else-cols-ge4
returns-else-cols-ge4 c =
    let m = c.args in
    as_transpose binary32 m.rows m.inner m.cols m.a.now m.b.now m.c.now c.thin_cells.ensures
