-- Where the loop ends all terms are added up.
use Rattle.std.proofs.Common.{◌≡◌, ◌∙◌, ap, arith}
use Rattle.std.specs.Float.{binary32}
use Rattle.numbers.specs.Sums.{plus0, sum_from}
use Rattle.thin_products.proofs.three_totals.Goals as goal

pub returns : goal.returns
returns c =
    let e : c.loop-k.k ≡ c.args.inner = omega arith in
    let v = c.loop-k.invariant in
    (v.0 ∙ ap (sum_from binary32 plus0 _) e, v.1 ∙ ap (sum_from binary32 plus0 _) e, v.2 ∙ ap (sum_from binary32 plus0 _) e)
