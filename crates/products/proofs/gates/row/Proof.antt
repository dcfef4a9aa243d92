-- `gates::row` meets its contract: the tests are those of the definition, in its order. Assumes nothing.
use Rattle.answers.proofs.Asked.{asked}
use borrow.Author.Rules.{rules}
use Rattle.entries.specs.Answers.{row_answer}
use Rattle.products.proofs.gates.row.Statement.{statement}
use Rattle.products.proofs.gates.row.Tie as tie

returns : tie.Need-returns
unfolding row_answer
returns c = asked _ (asked _ (asked _ (asked _ c.then_size-rows_taken.ensures c.then_size-sizes.ensures) c.then_matrix-left.ensures) c.then_buffer.ensures) c.then_buffer-2.ensures

pub row_spec : {M : Type 1} → statement M
row_spec =
    tie.close
    (tie.spec
    (λ c κs. search rules)
    (λ c κs. search rules)
    (λ c κs. search rules)
    (λ c κs. search rules)
    (λ c κs. search rules)
    returns)
