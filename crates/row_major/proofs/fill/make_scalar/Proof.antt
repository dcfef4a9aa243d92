-- `fill::make_scalar` meets its contract: it is `make_comatrix` with +0 off the diagonal. Assumes nothing.
use borrow.Author.Rules.{rules}
use lib.Ieee.{of_bits}
use Rattle.row_major.proofs.fill.make_scalar.Statement.{statement}
use Rattle.row_major.proofs.fill.make_scalar.Tie as tie

returns : tie.Need-returns
unfolding of_bits
returns c = c.make_comatrix.ensures

pub make_scalar_spec : {M : Type 1} → statement M
make_scalar_spec =
    tie.close
    (tie.spec
    (λ c κs. search rules)
    (λ c. search rules)
    returns)
