-- A card that is refused stays so, else the room decides; where there is room the matrices are filled.
use Rattle.std.proofs.Common.{Ok, sym, ap}
use Rattle.std.proofs.lemmas.Result.{err_from_is_err_and}
use Rattle.std.specs.Float.{binary32}
use Rattle.answers.specs.Answers.{is_done}
use Rattle.cards.proofs.Reading.{room_fits, card_decides, room_decides, lines_right, refused, taken}
use Rattle.cards.proofs.read.Goals as goal

pub returns-in_err-n : goal.returns-in_err-n
returns-in_err-n c =
    let a = c.args in
    let s = a.card.now in
    let p = err_from_is_err_and c.from_residual.result c.from_residual.ensures.1 in
    rw (p.1, p.2) (refused binary32 8 s a.a.now a.q.now a.h.now a.r.now _ (card_decides 8 s _ _ _ _ _ c.in_err-n.ensures))

pub returns-in_err-room : goal.returns-in_err-room
returns-in_err-room c =
    let a = c.args in
    let s = a.card.now in
    let j = c.in_ok-n.ensures in
    let p = err_from_is_err_and c.from_residual-in_err-room.result c.from_residual-in_err-room.ensures.1 in
    rw (p.1, p.2) (refused binary32 8 s a.a.now a.q.now a.h.now a.r.now _ (room_decides 8 s _ _ j.0 j.1.states j.1.observations _ _ _ _ _ c.in_err-room.ensures))

pub fill_all-requires : goal.fill_all-requires
fill_all-requires c =
    let j = c.in_ok-n.ensures in
    let room = room_fits _ _ _ _ _ _ (ap is_done (sym c.in_ok-room.ensures)) in
    (lines_right 8 c.args.card.now _ _ j.0 j.1.states j.1.observations _ j.1.rest, room.0, room.1, room.2, room.3)

pub returns : goal.returns
returns c =
    let a = c.args in
    let s = a.card.now in
    let j = c.in_ok-n.ensures in
    let w = c.fill_all.ensures in
    taken binary32 8 s a.a.now a.q.now a.h.now a.r.now _ _ _ _ _ _ j.1.states j.1.observations
    (room_decides 8 s _ _ j.0 j.1.states j.1.observations _ _ _ _ (Ok tt) c.in_ok-room.ensures)
    _ j.1.rest w.a w.q w.h w.r
