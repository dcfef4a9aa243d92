-- `update_cells` meets its contract: what its three steps leave, by the laws of a refused pivot and of pivots that are taken; the last step's answer is the call's. Assumes nothing.
use mathlib.Core.Path.{refl}
use native.Mathlib.Omega.{arith}
use Rattle.filters.proofs.Calls.{pivot_refused, pivots_taken}
use borrow.Author.Rules.{rules}
use Rattle.corrections.proofs.update_cells.Statement.{statement}
use Rattle.corrections.proofs.update_cells.Tie as tie

residual_cells-i-requires : tie.Need-residual_cells-i-requires
residual_cells-i-requires c κs = search rules

shape_of-p-then-i-m : tie.Need-shape_of-p-then-i-m
shape_of-p-then-i-m c = search rules

shape_of-s-then-i-m : tie.Need-shape_of-s-then-i-m
shape_of-s-then-i-m c = search rules

shape_of-temp_hp-then-i-m : tie.Need-shape_of-temp_hp-then-i-m
shape_of-temp_hp-then-i-m c = search rules

returns-then-i-m : tie.Need-returns-then-i-m
returns-then-i-m c =
    let r = c.residual_cells-i.ensures in
    pivot_refused _ _ _ _ _ _ c.if-i-m.true r.0 r.1.0 r.1.1 refl refl refl refl refl refl

gain_cells-requires : tie.Need-gain_cells-requires
gain_cells-requires c κs = search rules

renew_cells-requires : tie.Need-renew_cells-requires
renew_cells-requires c κs = omega (arith, c.requires)

shape_of-x : tie.Need-shape_of-x
shape_of-x c = c.x-1.given

shape_of-p : tie.Need-shape_of-p
shape_of-p c = c.p-1.given

shape_of-s : tie.Need-shape_of-s
shape_of-s c = c.s-1.given

shape_of-k : tie.Need-shape_of-k
shape_of-k c = c.k-1.given

shape_of-temp_s_inv : tie.Need-shape_of-temp_s_inv
shape_of-temp_s_inv c = c.temp_s_inv-1.given

shape_of-temp_hp : tie.Need-shape_of-temp_hp
shape_of-temp_hp c = c.temp_hp-1.given

shape_of-temp_pht : tie.Need-shape_of-temp_pht
shape_of-temp_pht c = c.temp_pht-1.given

shape_of-temp_khp : tie.Need-shape_of-temp_khp
shape_of-temp_khp c = c.temp_khp-1.given

returns : tie.Need-returns
returns c =
    let held = c.requires in
    let r = c.residual_cells-i.ensures in
    let g = c.gain_cells.ensures in
    let w = c.renew_cells.ensures in
    pivots_taken _ _ _ _ _ held.s_holds held.k_holds held.hp_holds r.1.0 r.1.1 _ _ c.if-i-m.false r.0 g.0 g.1.0 g.1.1 w.0 w.1.0 w.1.1.0 w.1.1.1

pub update_cells_spec : {M : Type 1} → statement M
update_cells_spec =
    tie.close
    (tie.spec
    residual_cells-i-requires
    shape_of-p-then-i-m
    shape_of-s-then-i-m
    shape_of-temp_hp-then-i-m
    returns-then-i-m
    gain_cells-requires
    renew_cells-requires
    shape_of-x
    shape_of-p
    shape_of-s
    shape_of-k
    shape_of-temp_s_inv
    shape_of-temp_hp
    shape_of-temp_pht
    shape_of-temp_khp
    returns)
