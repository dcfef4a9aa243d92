-- `fill::set_zero` meets its contract: it is `set_all` with +0. Assumes nothing.
use borrow.Author.Rules.{rules}
use lib.Ieee.{of_bits}
use Rattle.row_major.proofs.fill.set_zero.Statement.{statement}
use Rattle.row_major.proofs.fill.set_zero.Tie as tie

returns : tie.Need-returns
unfolding of_bits
returns c = c.set_all.ensures

pub set_zero_spec : {M : Type 1} → statement M
set_zero_spec =
    tie.close
    (tie.spec
    (λ c κs. search rules)
    (λ c. search rules)
    returns)
