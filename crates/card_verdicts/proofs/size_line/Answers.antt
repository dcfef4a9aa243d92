-- The count tells whether the line is right, and `then_size` whether the size is.
use Rattle.std.proofs.Common.{Ok, Err, sym, ap, ◌∙◌}
use Rattle.std.proofs.lemmas.Result.{err_from_is_err_and}
use Rattle.answers.specs.declared.Refusal.TheVariants.{Line}
use Rattle.answers.specs.Answers.{is_done}
use Rattle.card_lines.specs.Front.{with_rest}
use Rattle.card_lines.proofs.Told.{not_counted, a_count}
use Rattle.card_verdicts.proofs.Judging.{named, size_line_wrong, size_line_says, size_range}
use Rattle.card_verdicts.proofs.size_line.Goals as goal

pub returns-in_err-n : goal.returns-in_err-n
returns-in_err-n c =
    let key = c.args.key.now in
    let t = c.args.text.now in
    let bad = size_line_wrong key t c.args.line c.args.which (not_counted key t (ap with_rest (sym c.in_err-n.ensures.ok_part) ∙ c.count_line.ensures)) in
    let p = err_from_is_err_and c.from_residual.result c.from_residual.ensures.1 in
    rw (p.1, p.2) (bad ∙ ap Err (sym (named c.count_line.result (Line c.args.line) _ c.in_err-n.ensures.value)))

pub returns-in_err-then_size : goal.returns-in_err-then_size
returns-in_err-then_size c =
    let key = c.args.key.now in
    let t = c.args.text.now in
    let n = c.in_ok-n.n in
    let a = a_count key t n c.in_ok-n.rest.now (ap with_rest (sym c.in_ok-n.ensures.ok_part) ∙ c.count_line.ensures) in
    let p = err_from_is_err_and c.from_residual-in_err-then_size.result c.from_residual-in_err-then_size.ensures.1 in
    rw (p.1, p.2) (size_line_says key t c.args.line c.args.which n _ a.0 a.1 c.in_err-then_size.ensures)

pub returns : goal.returns
returns c =
    let key = c.args.key.now in
    let t = c.args.text.now in
    let n = c.in_ok-n.n in
    let a = a_count key t n c.in_ok-n.rest.now (ap with_rest (sym c.in_ok-n.ensures.ok_part) ∙ c.count_line.ensures) in
    let v = c.in_ok-then_size.ensures in
    let range = size_range c.args.which n (ap is_done (sym v)) in
    record {
      done = size_line_says key t c.args.line c.args.which n (Ok tt) a.0 a.1 v;
      counted = a.0;
      size = a.1;
      least = range.0;
      most = range.1;
      behind = a.2;
    }
