-- `gates::product` meets its contract: the tests are those of the definition, in its order. Assumes nothing.
use Rattle.answers.proofs.Asked.{asked}
use borrow.Author.Rules.{rules}
use Rattle.entries.specs.Answers.{product_answer}
use Rattle.products.proofs.gates.product.Statement.{statement}
use Rattle.products.proofs.gates.product.Tie as tie

returns : tie.Need-returns
unfolding product_answer
returns c = asked _ (asked _ (asked _ (asked _ (asked _ c.then_size-rows_taken.ensures c.then_size-inner_taken.ensures) c.then_size-sizes.ensures) c.then_matrix-left.ensures) c.then_matrix-right.ensures) c.then_matrix.ensures

pub product_spec : {M : Type 1} → statement M
product_spec =
    tie.close
    (tie.spec
    (λ c κs. search rules)
    (λ c κs. search rules)
    (λ c κs. search rules)
    (λ c κs. search rules)
    (λ c κs. search rules)
    (λ c κs. search rules)
    returns)
