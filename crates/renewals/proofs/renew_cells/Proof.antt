-- `renew_cells` meets its contract: the two products, what the tests find of the sums and differences, and the stores where both pass (`filters`: `proofs/Steps.antt`). Assumes nothing.
use mathlib.Core.Path.{refl}
use mathlib.Core.Logic.{⊎_elim}
use native.Mathlib.Omega.{arith}
use borrow.Author.Rules.{rules}
use lib.Ieee.{binary32}
use Rattle.answers.proofs.Shorter.{few}
use Rattle.filters.proofs.Steps.{stored, sum_refused, difference_refused}
use Rattle.renewals.proofs.renew_cells.Statement.{statement}
use Rattle.renewals.proofs.renew_cells.Lts.{else-sums_finite-via-then-sums_finite+else-differences_finite, else-sums_finite-via-else-sums_finite}
use Rattle.renewals.proofs.renew_cells.Tie as tie

slice_bounds-rowvector_cells-end : tie.Need-slice_bounds-rowvector_cells-end
slice_bounds-rowvector_cells-end c = search rules

rowvector_cells-requires : tie.Need-rowvector_cells-requires
rowvector_cells-requires c κs = search rules

mult_cells-requires : tie.Need-mult_cells-requires
mult_cells-requires c κs = search rules

slice_bounds-sums_finite-end : tie.Need-slice_bounds-sums_finite-end
slice_bounds-sums_finite-end c = search rules

sums_finite-requires : tie.Need-sums_finite-requires
sums_finite-requires c κs = search rules

overflow_mul-n : tie.Need-overflow_mul-n
overflow_mul-n c = search rules

differences_finite-requires : tie.Need-differences_finite-requires
differences_finite-requires c κs = search rules

slice_bounds-add_cells_a-end : tie.Need-slice_bounds-add_cells_a-end
slice_bounds-add_cells_a-end c = search rules

add_cells_a-requires : tie.Need-add_cells_a-requires
add_cells_a-requires c κs = search rules

overflow_mul-n-then-differences_finite : tie.Need-overflow_mul-n-then-differences_finite
overflow_mul-n-then-differences_finite c = let h = c.requires.1 in omega (arith, few _ _ h h)

sub_cells_a-requires : tie.Need-sub_cells_a-requires
sub_cells_a-requires c κs = search rules

shape_of-x-then-differences_finite : tie.Need-shape_of-x-then-differences_finite
shape_of-x-then-differences_finite c = search rules

shape_of-p-then-differences_finite : tie.Need-shape_of-p-then-differences_finite
shape_of-p-then-differences_finite c = search rules

shape_of-temp_khp-then-differences_finite : tie.Need-shape_of-temp_khp-then-differences_finite
shape_of-temp_khp-then-differences_finite c = search rules

returns-then-differences_finite : tie.Need-returns-then-differences_finite
returns-then-differences_finite c =
    let a = c.args in
    let w = stored binary32 a.n a.m a.x.now a.p.now a.y.now a.k.now a.temp_hp.now a.temp_khp.now _ _ _ (omega arith) c.requires.7 c.rowvector_cells.ensures c.mult_cells.ensures
    c.sums_finite.ensures c.differences_finite.ensures c.if-sums_finite.true c.if-differences_finite.true c.add_cells_a.ensures c.sub_cells_a.ensures in
    (w.0, (w.1, (c.mult_cells.ensures, w.2)))

shape_of-x : tie.Need-shape_of-x
shape_of-x c = search rules

shape_of-temp_khp : tie.Need-shape_of-temp_khp
shape_of-temp_khp c = search rules

returns : tie.Need-returns
returns c =
    let a = c.args in
    let khp = c.mult_cells.ensures in
    let told = c.sums_finite.ensures in
    elim c.else-sums_finite.branch [
      | else-sums_finite-via-then-sums_finite+else-differences_finite w ↦ (difference_refused binary32 a.n a.m a.x.now a.p.now a.y.now a.k.now a.temp_hp.now a.temp_khp.now _ _ _ (omega arith) c.requires.7 c.rowvector_cells.ensures khp told w.differences_finite.ensures w.if-sums_finite.true w.if-differences_finite.false, (refl, (khp, refl)))
      | else-sums_finite-via-else-sums_finite w ↦ (sum_refused binary32 a.n a.m a.x.now a.p.now a.y.now a.k.now a.temp_hp.now a.temp_khp.now _ _ _ (omega arith) c.requires.7 c.rowvector_cells.ensures khp told w.if-sums_finite.false, (refl, (khp, refl)))
    ]

pub renew_cells_spec : {M : Type 1} → statement M
renew_cells_spec =
    tie.close
    (tie.spec
    slice_bounds-rowvector_cells-end
    rowvector_cells-requires
    mult_cells-requires
    slice_bounds-sums_finite-end
    sums_finite-requires
    overflow_mul-n
    differences_finite-requires
    slice_bounds-add_cells_a-end
    add_cells_a-requires
    overflow_mul-n-then-differences_finite
    sub_cells_a-requires
    shape_of-x-then-differences_finite
    shape_of-p-then-differences_finite
    shape_of-temp_khp-then-differences_finite
    returns-then-differences_finite
    shape_of-x
    shape_of-temp_khp
    returns)
