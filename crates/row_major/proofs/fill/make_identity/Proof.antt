-- `fill::make_identity` meets its contract: it is `make_comatrix` with 1 on the diagonal and +0 off it. Assumes nothing.
use borrow.Author.Rules.{rules}
use lib.Ieee.{of_bits}
use Rattle.row_major.proofs.fill.make_identity.Statement.{statement}
use Rattle.row_major.proofs.fill.make_identity.Tie as tie

returns : tie.Need-returns
unfolding of_bits
returns c = c.make_comatrix.ensures

pub make_identity_spec : {M : Type 1} → statement M
make_identity_spec =
    tie.close
    (tie.spec
    (λ c κs. search rules)
    (λ c. search rules)
    returns)
