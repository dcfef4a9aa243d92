-- Each line that is right says what stands behind it, and each way out is a case of `proofs/Judging.antt`.
use Rattle.std.proofs.Common.{Err, arith, refl, sym, ap, ◌∙◌}
use native.Mathlib.Nat.{mul-pos}
use Rattle.std.proofs.lemmas.Result.{err_from_is_err_and}
use Rattle.answers.specs.declared.Refusal.TheVariants.{Line}
use Rattle.card_text.specs.Lines.{ends}
use Rattle.card_text.specs.Card.{a_key, q_key, h_key, r_key, nothing}
use Rattle.card_verdicts.proofs.Judging.{named, entries_wrong, entries_right, line_4, line_5, line_6, line_7, behind_decides, nothing_is}
use Rattle.card_verdicts.proofs.matrices.Goals as goal

pub entries_line-requires : goal.entries_line-requires
unfolding ends
entries_line-requires c = (refl, omega (arith, mul-pos c.requires.0 c.requires.0, mul-pos c.requires.2 c.requires.0, mul-pos c.requires.2 c.requires.2))

pub returns-in_err-q : goal.returns-in_err-q
returns-in_err-q c = λ s e.
    let bad = line_4 8 c.args.n c.args.m s (entries_wrong s c.args.text.now 3 e a_key 8 _ c.entries_line.result c.in_err-q.ensures.ok_part c.entries_line.ensures) in
    let p = err_from_is_err_and c.from_residual.result c.from_residual.ensures.1 in
    let v = named c.entries_line.result (Line 4) _ c.in_err-q.ensures.value in
    rw (p.1, p.2) (ap Err v ∙ sym bad)

pub entries_line-requires-2 : goal.entries_line-requires-2
unfolding ends
entries_line-requires-2 c = (refl, omega (arith, mul-pos c.requires.0 c.requires.0, mul-pos c.requires.2 c.requires.0, mul-pos c.requires.2 c.requires.2))

pub returns-in_err-h : goal.returns-in_err-h
returns-in_err-h c = λ s e.
    let l4 = entries_right s c.args.text.now 3 e a_key 8 _ c.entries_line.result _ c.in_ok-q.ensures.ok_part c.entries_line.ensures in
    let bad = line_5 8 c.args.n c.args.m s l4.0 (entries_wrong s c.in_ok-q.q.now 4 l4.1 q_key 8 _ c.entries_line-2.result c.in_err-h.ensures.ok_part c.entries_line-2.ensures) in
    let p = err_from_is_err_and c.from_residual-in_err-h.result c.from_residual-in_err-h.ensures.1 in
    let v = named c.entries_line-2.result (Line 5) _ c.in_err-h.ensures.value in
    rw (p.1, p.2) (ap Err v ∙ sym bad)

pub entries_line-requires-3 : goal.entries_line-requires-3
unfolding ends
entries_line-requires-3 c = (refl, omega (arith, mul-pos c.requires.0 c.requires.0, mul-pos c.requires.2 c.requires.0, mul-pos c.requires.2 c.requires.2))

pub returns-in_err-r : goal.returns-in_err-r
returns-in_err-r c = λ s e.
    let l4 = entries_right s c.args.text.now 3 e a_key 8 _ c.entries_line.result _ c.in_ok-q.ensures.ok_part c.entries_line.ensures in
    let l5 = entries_right s c.in_ok-q.q.now 4 l4.1 q_key 8 _ c.entries_line-2.result _ c.in_ok-h.ensures.ok_part c.entries_line-2.ensures in
    let bad = line_6 8 c.args.n c.args.m s l4.0 l5.0 (entries_wrong s c.in_ok-h.h.now 5 l5.1 h_key 8 _ c.entries_line-3.result c.in_err-r.ensures.ok_part c.entries_line-3.ensures) in
    let p = err_from_is_err_and c.from_residual-in_err-r.result c.from_residual-in_err-r.ensures.1 in
    let v = named c.entries_line-3.result (Line 6) _ c.in_err-r.ensures.value in
    rw (p.1, p.2) (ap Err v ∙ sym bad)

pub entries_line-requires-4 : goal.entries_line-requires-4
unfolding ends
entries_line-requires-4 c = (refl, omega (arith, mul-pos c.requires.0 c.requires.0, mul-pos c.requires.2 c.requires.0, mul-pos c.requires.2 c.requires.2))

pub returns-in_err-end : goal.returns-in_err-end
returns-in_err-end c = λ s e.
    let l4 = entries_right s c.args.text.now 3 e a_key 8 _ c.entries_line.result _ c.in_ok-q.ensures.ok_part c.entries_line.ensures in
    let l5 = entries_right s c.in_ok-q.q.now 4 l4.1 q_key 8 _ c.entries_line-2.result _ c.in_ok-h.ensures.ok_part c.entries_line-2.ensures in
    let l6 = entries_right s c.in_ok-h.h.now 5 l5.1 h_key 8 _ c.entries_line-3.result _ c.in_ok-r.ensures.ok_part c.entries_line-3.ensures in
    let bad = line_7 8 c.args.n c.args.m s l4.0 l5.0 l6.0 (entries_wrong s c.in_ok-r.r.now 6 l6.1 r_key 8 _ c.entries_line-4.result c.in_err-end.ensures.ok_part c.entries_line-4.ensures) in
    let p = err_from_is_err_and c.from_residual-in_err-end.result c.from_residual-in_err-end.ensures.1 in
    let v = named c.entries_line-4.result (Line 7) _ c.in_err-end.ensures.value in
    rw (p.1, p.2) (ap Err v ∙ sym bad)

pub returns-then-is_empty : goal.returns-then-is_empty
returns-then-is_empty c = λ s e.
    let l4 = entries_right s c.args.text.now 3 e a_key 8 _ c.entries_line.result _ c.in_ok-q.ensures.ok_part c.entries_line.ensures in
    let l5 = entries_right s c.in_ok-q.q.now 4 l4.1 q_key 8 _ c.entries_line-2.result _ c.in_ok-h.ensures.ok_part c.entries_line-2.ensures in
    let l6 = entries_right s c.in_ok-h.h.now 5 l5.1 h_key 8 _ c.entries_line-3.result _ c.in_ok-r.ensures.ok_part c.entries_line-3.ensures in
    let l7 = entries_right s c.in_ok-r.r.now 6 l6.1 r_key 8 _ c.entries_line-4.result _ c.in_ok-end.ensures.ok_part c.entries_line-4.ensures in
    sym (behind_decides 8 c.args.n c.args.m s l4.0 l5.0 l6.0 l7.0 _ (ap nothing (sym l7.1) ∙ nothing_is c.in_ok-end.end.now ∙ sym c.if-is_empty.ensures))

pub returns-else-is_empty : goal.returns-else-is_empty
returns-else-is_empty c = λ s e.
    let l4 = entries_right s c.args.text.now 3 e a_key 8 _ c.entries_line.result _ c.in_ok-q.ensures.ok_part c.entries_line.ensures in
    let l5 = entries_right s c.in_ok-q.q.now 4 l4.1 q_key 8 _ c.entries_line-2.result _ c.in_ok-h.ensures.ok_part c.entries_line-2.ensures in
    let l6 = entries_right s c.in_ok-h.h.now 5 l5.1 h_key 8 _ c.entries_line-3.result _ c.in_ok-r.ensures.ok_part c.entries_line-3.ensures in
    let l7 = entries_right s c.in_ok-r.r.now 6 l6.1 r_key 8 _ c.entries_line-4.result _ c.in_ok-end.ensures.ok_part c.entries_line-4.ensures in
    sym (behind_decides 8 c.args.n c.args.m s l4.0 l5.0 l6.0 l7.0 _ (ap nothing (sym l7.1) ∙ nothing_is c.in_ok-end.end.now ∙ sym c.if-is_empty.ensures))
