-- A row of a product in two halves: both compute to the same sums. Assumes nothing.
use mathlib.Core.Path.{◌≡◌, refl, ap, ◌∙◌}
use Rattle.side_by_side.specs.declared.Four.{Four}
use Rattle.side_by_side.specs.declared.Sixteen.{Sixteen}
use Rattle.numbers.specs.Sums.{plus0, sum_from}
use Rattle.four_values.specs.Values.{four}
use Rattle.four_values.specs.Products.{row_times, with_two}

-- the row h times p, from its first two terms in u
pub row_of : (h : Four) (p : Sixteen) {u v : Four} → u ≡ with_two (four (λ k. plus0)) h.t0 p.f0 h.t1 p.f1 → v ≡ with_two u h.t2 p.f2 h.t3 p.f3 → v ≡ row_times h p
unfolding with_two row_times sum_from
row_of h p u-is v-is = v-is ∙ ap (λ (w : Four). with_two w h.t2 p.f2 h.t3 p.f3) u-is ∙ refl
