-- Each line that is right says what stands behind it, and each way out is a case of `proofs/Judging.antt`.
use Rattle.std.proofs.Common.{Ok, Err, refl, sym, ap, ◌∙◌}
use Rattle.std.proofs.lemmas.Result.{err_from_is_err_and}
use Rattle.answers.specs.declared.Refusal.TheVariants.{Line}
use Rattle.card_text.specs.Lines.{ends, behind_lines}
use Rattle.card_text.specs.Card.{edition_key, states_key, observations_key}
use Rattle.card_verdicts.specs.Verdicts.{size_line_answer}
use Rattle.card_verdicts.proofs.Judging.{named, count_wrong, count_right, size_right, line_1, other_edition, states_refused, observations_decide}
use Rattle.card_verdicts.proofs.heading.Goals as goal

pub count_line-requires : goal.count_line-requires
unfolding ends
count_line-requires c = refl

pub returns-in_err-edition : goal.returns-in_err-edition
unfolding behind_lines
returns-in_err-edition c =
    let s = c.args.card.now in
    let bad = line_1 s (count_wrong s s 0 refl edition_key c.count_line.result c.in_err-edition.ensures.ok_part c.count_line.ensures) in
    let p = err_from_is_err_and c.from_residual.result c.from_residual.ensures.1 in
    let e = named c.count_line.result (Line 1) _ c.in_err-edition.ensures.value in
    rw (p.1, p.2) (bad ∙ ap Err (sym e))

pub returns-then-edition-ne1 : goal.returns-then-edition-ne1
unfolding behind_lines
returns-then-edition-ne1 c =
    let s = c.args.card.now in
    let e = count_right s s 0 refl edition_key c.count_line.result _ _ c.in_ok-edition.ensures.ok_part c.count_line.ensures in
    other_edition s e.0 _ e.1 c.if-edition-ne1.true

pub size_line-requires : goal.size_line-requires
unfolding ends
size_line-requires c = refl

pub returns-in_err-n : goal.returns-in_err-n
unfolding behind_lines
returns-in_err-n c =
    let s = c.args.card.now in
    let e = count_right s s 0 refl edition_key c.count_line.result _ _ c.in_ok-edition.ensures.ok_part c.count_line.ensures in
    let h = c.in_err-n.ensures in
    let p = err_from_is_err_and c.from_residual-in_err-n.result c.from_residual-in_err-n.ensures.1 in
    rw (p.1, p.2) (states_refused s e.0 _ e.1 c.if-edition-ne1.false _ (ap (size_line_answer states_key 2 0) (sym e.2) ∙ h))

pub size_line-requires-2 : goal.size_line-requires-2
unfolding ends
size_line-requires-2 c = refl

pub returns-in_err-m : goal.returns-in_err-m
unfolding behind_lines
returns-in_err-m c =
    let s = c.args.card.now in
    let e = count_right s s 0 refl edition_key c.count_line.result _ _ c.in_ok-edition.ensures.ok_part c.count_line.ensures in
    let n = size_right s _ 1 e.2 states_key 2 0 _ _ c.in_ok-n.ensures in
    let h = c.in_err-m.ensures in
    let p = err_from_is_err_and c.from_residual-in_err-m.result c.from_residual-in_err-m.ensures.1 in
    rw (p.1, p.2) (observations_decide s e.0 _ e.1 c.if-edition-ne1.false _ n.0 (ap (size_line_answer observations_key 3 1) (sym n.2) ∙ h))

pub returns : goal.returns
unfolding behind_lines
returns c =
    let s = c.args.card.now in
    let e = count_right s s 0 refl edition_key c.count_line.result _ _ c.in_ok-edition.ensures.ok_part c.count_line.ensures in
    let n = size_right s _ 1 e.2 states_key 2 0 _ _ c.in_ok-n.ensures in
    let m = size_right s _ 2 n.2 observations_key 3 1 _ _ c.in_ok-m.ensures in (
      observations_decide s e.0 _ e.1 c.if-edition-ne1.false (Ok tt) n.0 m.0,
      record {
        states = n.1;
        observations = m.1;
        states_least = c.in_ok-n.ensures.least;
        states_most = c.in_ok-n.ensures.most;
        observations_least = c.in_ok-m.ensures.least;
        observations_most = c.in_ok-m.ensures.most;
        rest = m.2;
      },
    )
