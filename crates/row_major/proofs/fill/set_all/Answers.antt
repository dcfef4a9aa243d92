-- The gate says that the matrix fits; the cells filled are those of the grid. Assumes nothing.
use Rattle.std.proofs.Common.{refl, sym, ◌∙◌, arith, length}
use Rattle.grids.proofs.Grids.{grid_flat}
use Rattle.grids.proofs.Shapes.{matrix_fits}
use Rattle.row_major.proofs.fill.set_all.Goals as goal

pub overflow_mul-rows : goal.overflow_mul-rows
overflow_mul-rows c =
    let s = matrix_fits c.args.rows c.args.cols (length c.args.m.now) c.in_ok-matrix.ensures refl refl in omega arith

pub fill_cells-requires : goal.fill_cells-requires
fill_cells-requires c =
    let s = matrix_fits c.args.rows c.args.cols (length c.args.m.now) c.in_ok-matrix.ensures refl refl in omega (arith, s.holds)

pub returns : goal.returns
returns c = record { answer = c.in_ok-matrix.ensures; after = c.fill_cells.ensures ∙ sym (grid_flat _ _ _ _) }
