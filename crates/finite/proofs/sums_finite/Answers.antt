-- What `pairs_finite` says of an operation, of this one.
use Rattle.std.proofs.Common.{rules}
use Rattle.std.specs.Float.{binary32}
use Rattle.std.specs.Float.Ieee.{add}
use Rattle.finite.proofs.sums_finite.Goals as goal

pub returns : goal.returns
returns c = c.pairs_finite.ensures (add binary32) (λ x y r p. search rules)
