-- `by_turned` meets its contract: a thin product by where H lies, a wide one by the turned H. Assumes nothing.
use mathlib.Core.Path.{◌∙◌}
use native.Mathlib.Omega.{arith}
use lib.Ieee.{binary32}
use borrow.Author.Rules.{rules}
use Rattle.grids.proofs.Grids.{grid_ext}
use Rattle.entries.proofs.Agree.{transposed_agrees}
use Rattle.thin_products.proofs.Strides.{as_transpose, transpose_in}
use Rattle.turned_updates.proofs.gain.by_turned.Statement.{statement}
use Rattle.turned_updates.proofs.gain.by_turned.Tie as tie

thin_cells-requires : tie.Need-thin_cells-requires
thin_cells-requires c κs =
    let a = c.args in
    let g = c.requires in
    (g.4, omega (arith, c.if-m-lt4.true), g.6, g.0, transpose_in a.n a.m a.h.now g.1, g.3)

returns-then-m-lt4 : tie.Need-returns-then-m-lt4
returns-then-m-lt4 c =
    let a = c.args in
    as_transpose binary32 a.n a.n a.m a.p.now a.h.now a.temp_pht.now c.thin_cells.ensures

returns-else-m-lt4 : tie.Need-returns-else-m-lt4
returns-else-m-lt4 c =
    let a = c.args in
    c.wide_cells.ensures
    ∙ grid_ext a.n a.m _ _ a.temp_pht.now
    (λ r j lr lj. transposed_agrees binary32 a.n a.n a.m a.p.now a.t.now a.temp_pht.now a.h.now (c.requires.7 (omega (arith, c.if-m-lt4.false))) r j lj)

pub by_turned_spec : {M : Type 1} → statement M
by_turned_spec =
    tie.close
    (tie.spec thin_cells-requires (λ c κs. search rules) (λ c. search rules) returns-then-m-lt4 (λ c. search rules) returns-else-m-lt4)
