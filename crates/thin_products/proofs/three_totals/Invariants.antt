-- k of the terms of each of the three are added up.
use Rattle.std.proofs.Common.{◌≡◌, ◌+◌, ◌*◌, get_or}
use Rattle.std.specs.Float.{binary32, nan}
use Rattle.numbers.specs.Sums.{plus0, sum_from, products}
use Rattle.grids.specs.Grid.{cell}
use Rattle.thin_products.proofs.three_totals.Given as goal

abbrev pub invariant-loop-k : goal.invariant-loop-k
invariant-loop-k l =
    (l.t0 ≡ sum_from binary32 plus0 (products binary32 (cell l.inner l.a l.r) (λ i. get_or l.b (i * l.up) nan)) l.k)
    × (l.t1 ≡ sum_from binary32 plus0 (products binary32 (cell l.inner l.a l.r) (λ i. get_or l.b (i * l.up + l.one) nan)) l.k)
    × (l.t2 ≡ sum_from binary32 plus0 (products binary32 (cell l.inner l.a l.r) (λ i. get_or l.b (i * l.up + l.two) nan)) l.k)
