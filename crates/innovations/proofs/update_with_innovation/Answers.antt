-- The gate says that the buffers fit; past it stands what the core left, and a refused call leaves all as lent. Assumes nothing.
use Rattle.std.proofs.Common.{refl}
use Rattle.std.proofs.lemmas.Result.{err_from_is_err_and}
use Rattle.std.specs.Float.{binary32}
use Rattle.answers.proofs.Kept.{accepted, err_not_done}
use Rattle.filters.specs.Lent.{update_answer}
use Rattle.filters.proofs.CorrectionFits.{update_fits}
use Rattle.filters.proofs.Calls.{update_past, update_refused}
use Rattle.innovations.proofs.update_with_innovation.Goals as goal

pub returns-in_err-update : goal.returns-in_err-update
unfolding update_answer
returns-in_err-update c =
    let p = err_from_is_err_and c.from_residual.result c.from_residual.ensures.1 in
    rw (p.1, p.2) (update_refused binary32 c.args.n c.args.m _ _ c.in_err-update.ensures (err_not_done _))

pub update_cells-requires : goal.update_cells-requires
unfolding update_answer
update_cells-requires c = update_fits c.args.n c.args.m _ (accepted c.in_ok-update.ensures refl refl)

pub returns : goal.returns
unfolding update_answer
returns c = update_past binary32 c.args.n c.args.m _ _ _ (accepted c.in_ok-update.ensures refl refl) refl c.update_cells.ensures
