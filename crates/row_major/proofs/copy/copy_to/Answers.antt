-- The gate says that both matrices fit; the cells copied are those of the grid. Assumes nothing.
use Rattle.std.proofs.Common.{refl, sym, ◌∙◌, arith, length}
use Rattle.grids.proofs.Grids.{grid_flat}
use Rattle.grids.proofs.Shapes.{pair_fits}
use Rattle.row_major.proofs.copy.copy_to.Goals as goal

pub overflow_mul-rows : goal.overflow_mul-rows
overflow_mul-rows c =
    let a = c.args in let s = pair_fits a.rows a.cols (length a.m.now) (length a.target.now) c.in_ok-pair.ensures refl refl in omega arith

pub copy_cells-requires : goal.copy_cells-requires
copy_cells-requires c =
    let a = c.args in
    let s = pair_fits a.rows a.cols (length a.m.now) (length a.target.now) c.in_ok-pair.ensures refl refl in
    (omega (arith, s.both_hold.0), omega (arith, s.both_hold.1))

pub returns : goal.returns
returns c = record { answer = c.in_ok-pair.ensures; after = c.copy_cells.ensures ∙ sym (grid_flat _ _ _ _) }
