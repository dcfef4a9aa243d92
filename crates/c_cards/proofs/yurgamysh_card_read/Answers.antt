-- By the two cases of what `read` says.
use Rattle.std.specs.Float.{binary32}
use Rattle.c_cards.proofs.Reading.{sized, refused}
use Rattle.c_cards.proofs.yurgamysh_card_read.Goals as goal

pub returns-in-Ok : goal.returns-in-Ok
returns-in-Ok c =
    let a = c.args in
    sized binary32 8 a.card.now a.a.now a.q.now a.h.now a.r.now a.states.now a.observations.now _ _ _ _ c.read.ensures c.in-Ok.is

pub returns-in-Err : goal.returns-in-Err
returns-in-Err c =
    let a = c.args in
    refused binary32 8 a.card.now a.a.now a.q.now a.h.now a.r.now a.states.now a.observations.now _ _ _ _ c.read.ensures c.in-Err.is c.code_of.ensures
