-- Where the key stands there, the count behind it is that of the line.
use Rattle.std.proofs.Common.{ap, ◌∙◌}
use Rattle.card_lines.specs.Front.{with_rest, count_first}
use Rattle.card_lines.proofs.Keyed.{no_count, count_there}
use Rattle.card_lines.proofs.counts.count_line.Goals as goal

pub returns-in_err-strip_prefix : goal.returns-in_err-strip_prefix
returns-in_err-strip_prefix c = let h = c.in_err-strip_prefix.ensures.cases in ap with_rest c.from_residual.ensures ∙ no_count c.args.key.now c.args.text.now h

pub returns : goal.returns
returns c = let h = c.in_ok-strip_prefix.ensures.cases in c.count_here.ensures ∙ ap count_first h.1 ∙ count_there c.args.key.now c.args.text.now c.requires h.0
