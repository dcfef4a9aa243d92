-- The gate says that both matrices fit; the core adds a to b, which is b added to a. Assumes nothing.
use Rattle.std.proofs.Common.{refl, ◌∙◌, arith, length}
use Rattle.std.specs.Float.{binary32}
use Rattle.grids.proofs.Pairs.{stored_in, added_right}
use Rattle.grids.proofs.Shapes.{pair_fits}
use Rattle.sums.proofs.add_inplace_b.Goals as goal

pub overflow_mul-rows : goal.overflow_mul-rows
overflow_mul-rows c =
    let a = c.args in let s = pair_fits a.rows a.cols (length a.a.now) (length a.b.now) c.in_ok-pair.ensures refl refl in omega arith

pub add_cells_a-requires : goal.add_cells_a-requires
add_cells_a-requires c = let s = (pair_fits _ _ _ _ c.in_ok-pair.ensures refl refl).both_hold in (s.1, s.0)

pub returns : goal.returns
returns c =
    let a = c.args in stored_in c.in_ok-pair.ensures refl refl (c.add_cells_a.ensures ∙ added_right binary32 _ a.a.now a.b.now a.b.now)
