-- At one state and one observation, where every buffer fits, stands what the lines of that size leave. Elsewhere the gate's answer decides: past it y is the innovation, and the update has read it. Assumes nothing.
use Rattle.std.proofs.Common.{refl, sym, subst, ℕ, [], length}
use Rattle.std.proofs.lemmas.Result.{err_from_is_err_and}
use Rattle.std.specs.Float.{binary32}
use Rattle.answers.proofs.Kept.{accepted, err_not_done}
use Rattle.filters.specs.Lent.{buffers, from_r_of, correct_answer}
use Rattle.filters.specs.Corrected.{Corrected}
use Rattle.filters.proofs.CorrectionFits.{correct_fits, held_with}
use Rattle.filters.proofs.Calls.{correct_past, correct_refused}
use Rattle.observation_gates.proofs.Fits.{ones_pass}
use Rattle.readings.proofs.correct.Goals as goal

pub correct_one-requires : goal.correct_one-requires
unfolding correct_answer
correct_one-requires c =
    let a = c.args in
    let lent = buffers a.x.now a.p.now a.h.now a.z.now a.r.now a.y.now a.s.now a.k.now a.temp_s_inv.now a.temp_hp.now a.temp_pht.now a.temp_khp.now in
    let k = ones_pass a.n a.m (length a.x.now) (length a.p.now) (length a.h.now) (length a.z.now) (from_r_of 1 1 lent) _ c.ones_fit.ensures c.if-ones_fit.true in
    let h = correct_fits 1 1 lent k.2 in
    (held_with 1 1 lent _ [] h.0 h.0.y_holds, h.1)

pub returns-then-ones_fit : goal.returns-then-ones_fit
unfolding correct_answer
returns-then-ones_fit c =
    let a = c.args in
    let lent = buffers a.x.now a.p.now a.h.now a.z.now a.r.now a.y.now a.s.now a.k.now a.temp_s_inv.now a.temp_hp.now a.temp_pht.now a.temp_khp.now in
    let k = ones_pass a.n a.m (length a.x.now) (length a.p.now) (length a.h.now) (length a.z.now) (from_r_of 1 1 lent) _ c.ones_fit.ensures c.if-ones_fit.true in
    let l = c.correct_one.new in
    let left = buffers l.x l.p a.h.now a.z.now a.r.now l.y l.s l.k l.temp_s_inv l.temp_hp l.temp_pht l.temp_khp in
    subst (λ (i : ℕ). Corrected binary32 a.n i lent c.correct_one.result left) (sym k.1)
    (subst (λ (i : ℕ). Corrected binary32 i 1 lent c.correct_one.result left) (sym k.0)
    (correct_past binary32 1 1 lent c.correct_one.result left [] k.2 c.correct_one.ensures.y c.correct_one.ensures.renewed))

pub returns-in_err-correction : goal.returns-in_err-correction
unfolding correct_answer
returns-in_err-correction c =
    let p = err_from_is_err_and c.from_residual.result c.from_residual.ensures.1 in
    rw (p.1, p.2) (correct_refused binary32 c.args.n c.args.m _ _ c.in_err-correction.ensures (err_not_done _))

pub correct_cells-requires : goal.correct_cells-requires
unfolding correct_answer
correct_cells-requires c =
    let a = c.args in
    let lent = buffers a.x.now a.p.now a.h.now a.z.now a.r.now a.y.now a.s.now a.k.now a.temp_s_inv.now a.temp_hp.now a.temp_pht.now a.temp_khp.now in
    let h = correct_fits a.n a.m lent (accepted c.in_ok-correction.ensures refl refl) in
    (held_with a.n a.m lent _ [] h.0 h.0.y_holds, h.1)

pub returns : goal.returns
unfolding correct_answer
returns c =
    correct_past binary32 c.args.n c.args.m _ _ _ [] (accepted c.in_ok-correction.ensures refl refl) c.correct_cells.ensures.y c.correct_cells.ensures.renewed
