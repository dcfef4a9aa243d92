-- By the two cases of what `write` says.
use Rattle.std.specs.Float.{binary32}
use Rattle.c_cards.proofs.Writing.{written, refused}
use Rattle.c_cards.proofs.yurgamysh_card_write.Goals as goal

pub returns-in-Ok : goal.returns-in-Ok
returns-in-Ok c =
    let a = c.args in
    written binary32 8 a.states a.observations a.a.now a.q.now a.h.now a.r.now a.card.now a.length.now _ c.write.ensures c.in-Ok.is

pub returns-in-Err : goal.returns-in-Err
returns-in-Err c =
    let a = c.args in
    refused binary32 8 a.states a.observations a.a.now a.q.now a.h.now a.r.now a.card.now a.length.now _ c.write.ensures c.in-Err.is c.code_of.ensures
