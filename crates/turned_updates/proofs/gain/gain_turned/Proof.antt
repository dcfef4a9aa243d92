use native.Mathlib.Omega.{arith}
use Rattle.filters.proofs.Steps.{gain}
use borrow.Author.Rules.{rules}
use lib.Ieee.{binary32}
use Rattle.turned_updates.proofs.gain.gain_turned.Statement.{statement}
use Rattle.turned_updates.proofs.gain.gain_turned.Tie as tie

invert_cells-requires : tie.Need-invert_cells-requires
invert_cells-requires c κs = search rules

by_turned-requires : tie.Need-by_turned-requires
by_turned-requires c κs = search rules

mult_cells-requires : tie.Need-mult_cells-requires
mult_cells-requires c κs = search rules

shape_of-k : tie.Need-shape_of-k
shape_of-k c = c.k-1.given

shape_of-temp_s_inv : tie.Need-shape_of-temp_s_inv
shape_of-temp_s_inv c = c.temp_s_inv-1.given

shape_of-temp_pht : tie.Need-shape_of-temp_pht
shape_of-temp_pht c = c.temp_pht-1.given

returns : tie.Need-returns
returns c =
    let i = c.invert_cells.ensures in
    let a = c.args in
    (i, (c.by_turned.ensures, gain binary32 a.n a.m a.p.now a.h.now a.s.now a.temp_s_inv.now a.k.now a.temp_pht.now _ _ (omega arith) (omega arith) i c.by_turned.ensures c.mult_cells.ensures))

pub gain_turned_spec : {M : Type 1} → statement M
gain_turned_spec =
    tie.close
    (tie.spec
    invert_cells-requires
    by_turned-requires
    mult_cells-requires
    shape_of-k
    shape_of-temp_s_inv
    shape_of-temp_pht
    returns)
