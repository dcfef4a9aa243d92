-- A test more at each call (`answers/proofs/Asked.antt`).
use Rattle.std.proofs.Common.{◌*◌}
use Rattle.answers.specs.Tests.{buffer_test}
use Rattle.answers.proofs.Asked.{asked}
use Rattle.cards.specs.Steps.{room_answer}
use Rattle.cards.proofs.room.Goals as goal

pub returns : goal.returns
unfolding room_answer
returns c =
    let a = c.args in
    asked (buffer_test 3 (a.m * a.m) a.lr)
    (asked (buffer_test 2 (a.m * a.n) a.lh)
    (asked (buffer_test 1 (a.n * a.n) a.lq) c.then_matrix-a.ensures c.then_matrix-q.ensures)
    c.then_matrix-h.ensures)
    c.then_matrix.ensures
