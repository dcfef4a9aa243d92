-- A size that is refused stays so, else the room decides, that of the bytes last; where there is room the card is put in front.
use Rattle.std.proofs.Common.{◌≡◌, length, sym, ap, Ok}
use Rattle.std.proofs.lemmas.Result.{err_from_is_err_and}
use Rattle.std.specs.Float.{binary32}
use Rattle.answers.specs.Answers.{is_done}
use Rattle.cards.specs.Written.{sizes_answer, write_answer}
use Rattle.cards.proofs.Theorems.{measured-length}
use Rattle.cards.proofs.Writing.{Fits, write_fits, sizes_decide, bytes_decide, write_refused, write_done}
use Rattle.cards.proofs.write.Goals as goal
use Rattle.cards.proofs.write.Goals.{In_ok-then_buffer}

-- where the tests were passed the definition says so,
passed : (c : In_ok-then_buffer) → write_answer 8 c.args.n c.args.m (length c.args.a.now) (length c.args.q.now) (length c.args.h.now) (length c.args.r.now) (length c.args.card.now) ≡ Ok tt
passed c = sym (bytes_decide 8 c.args.n c.args.m _ _ _ _ _ _ c.room-matrices.result _ c.in_ok-l.ensures c.room-matrices.ensures c.in_ok-then_buffer.ensures)

-- and everything fits
fits : (c : In_ok-then_buffer) → Fits 8 c.args.n c.args.m (length c.args.a.now) (length c.args.q.now) (length c.args.h.now) (length c.args.r.now) (length c.args.card.now)
fits c = write_fits 8 _ _ _ _ _ _ _ (ap is_done (passed c))

pub returns-in_err-l : goal.returns-in_err-l
returns-in_err-l c =
    let a = c.args in
    let p = err_from_is_err_and c.from_residual.result c.from_residual.ensures.1 in
    rw (p.1, p.2) (write_refused binary32 8 a.n a.m a.a.now a.q.now a.h.now a.r.now a.card.now _ (sizes_decide 8 a.n a.m _ _ _ _ _ _ c.in_err-l.ensures))

pub returns-in_err-then_buffer : goal.returns-in_err-then_buffer
returns-in_err-then_buffer c =
    let a = c.args in
    let e = bytes_decide 8 a.n a.m _ _ _ _ _ _ c.room-matrices.result _ c.in_ok-l.ensures c.room-matrices.ensures c.in_err-then_buffer.ensures in
    let p = err_from_is_err_and c.from_residual-in_err-then_buffer.result c.from_residual-in_err-then_buffer.ensures.1 in
    rw (p.1, p.2) (write_refused binary32 8 a.n a.m a.a.now a.q.now a.h.now a.r.now a.card.now _ (sym e))

pub put_card-requires : goal.put_card-requires
put_card-requires c =
    let s = fits (goal.at.put_card-requires c).In_ok-then_buffer in
    (s.states_least, s.states_most, s.observations_least, s.observations_most, s.a, s.q, s.h, s.r, s.bytes)

pub returns : goal.returns
returns c =
    let a = c.args in
    let w = (goal.at.returns c).In_ok-then_buffer in
    write_done binary32 8 a.n a.m a.a.now a.q.now a.h.now a.r.now a.card.now (fits w) _ _
    (measured-length (sizes_answer a.n a.m) _ _ c.in_ok-l.ensures).1
    (passed w)
    c.put_card.ensures
