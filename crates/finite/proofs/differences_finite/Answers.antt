-- What `pairs_finite` says of an operation, of this one.
use Rattle.std.proofs.Common.{rules}
use Rattle.std.specs.Float.{binary32}
use Rattle.std.specs.Float.Ieee.{sub}
use Rattle.finite.proofs.differences_finite.Goals as goal

pub returns : goal.returns
returns c = c.pairs_finite.ensures (sub binary32) (λ x y r p. search rules)
