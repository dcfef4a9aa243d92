-- Both sizes are asked in their order, and where they are taken the length is the definition's.
use Rattle.std.proofs.Common.{ap, sym}
use Rattle.std.proofs.lemmas.Result.{err_from_is_err_and}
use Rattle.answers.specs.Answers.{is_done, Answer}
use Rattle.answers.specs.Tests.{size_test}
use Rattle.answers.proofs.Asked.{asked}
use Rattle.card_text.specs.Spelling.{card_length}
use Rattle.cards.specs.Written.{sizes_answer, measured}
use Rattle.cards.proofs.Writing.{sizes_fit}
use Rattle.cards.proofs.length_of.Goals as goal

pub returns-in_err-then_size : goal.returns-in_err-then_size
unfolding sizes_answer
returns-in_err-then_size c =
    let e = asked (size_test 1 c.args.m) c.then_size-states.ensures c.in_err-then_size.ensures in
    let p = err_from_is_err_and c.from_residual.result c.from_residual.ensures.1 in
    rw (p.1, p.2) (ap (λ (v : Answer). measured v (card_length 8 c.args.n c.args.m)) e)

pub bytes_of-requires : goal.bytes_of-requires
unfolding sizes_answer
bytes_of-requires c =
    let s = sizes_fit c.args.n c.args.m (ap is_done (sym (asked (size_test 1 c.args.m) c.then_size-states.ensures c.in_ok-then_size.ensures))) in
    (s.1, s.3)

pub returns : goal.returns
unfolding sizes_answer
returns c =
    let e = asked (size_test 1 c.args.m) c.then_size-states.ensures c.in_ok-then_size.ensures in
    rw c.bytes_of.ensures (ap (λ (v : Answer). measured v (card_length 8 c.args.n c.args.m)) e)
