-- By the two cases of what `length_of` says.
use Rattle.c_cards.proofs.Writing.{measured-told, refused_told}
use Rattle.c_cards.proofs.yurgamysh_card_length.Goals as goal

pub returns-in-Ok : goal.returns-in-Ok
returns-in-Ok c =
    let a = c.args in
    measured-told 8 a.states a.observations a.length.now c.length_of.ensures c.in-Ok.is

pub returns-in-Err : goal.returns-in-Err
returns-in-Err c =
    let a = c.args in
    refused_told 8 a.states a.observations a.length.now c.length_of.ensures c.in-Err.is c.code_of.ensures
