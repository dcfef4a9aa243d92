-- A head that is refused decides, and else the matrices do.
use Rattle.std.proofs.Common.{Ok}
use Rattle.std.proofs.lemmas.Result.{err_from_is_err_and}
use Rattle.card_verdicts.proofs.Judging.{head_refuses, matrices_decide}
use Rattle.card_verdicts.proofs.judge.Goals as goal

pub returns-in_err-n : goal.returns-in_err-n
returns-in_err-n c =
    let p = err_from_is_err_and c.from_residual.result c.from_residual.ensures.1 in
    rw (p.1, p.2) (head_refuses 8 c.args.card.now _ c.in_err-n.ensures)

pub returns-in_err-matrices : goal.returns-in_err-matrices
returns-in_err-matrices c =
    let h = c.in_ok-n.ensures in
    let m = c.in_err-matrices.ensures c.args.card.now h.1.rest in
    let p = err_from_is_err_and c.from_residual-in_err-matrices.result c.from_residual-in_err-matrices.ensures.1 in
    rw (p.1, p.2) (matrices_decide 8 c.args.card.now _ _ _ h.0 h.1.states h.1.observations m)

pub returns : goal.returns
returns c =
    let h = c.in_ok-n.ensures in
    let m = c.in_ok-matrices.ensures c.args.card.now h.1.rest in
    (matrices_decide 8 c.args.card.now _ _ (Ok tt) h.0 h.1.states h.1.observations m, h.1)
