-- `less_dot`: k products are subtracted.
use Rattle.std.proofs.Common.{◌≡◌, get_or}
use Rattle.std.specs.Float.{binary32, nan}
use Rattle.factors.specs.Decomposition.{less_dot}
use Rattle.columns.proofs.less_dot.Given as goal

abbrev pub invariant-loop-k : goal.invariant-loop-k
invariant-loop-k l = l.sum ≡ less_dot binary32 l.start (λ j. get_or l.a j nan) (λ j. get_or l.b j nan) l.k
