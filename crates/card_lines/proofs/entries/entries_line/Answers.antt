-- Where the key stands there, the entries behind it are those of the line.
use Rattle.std.proofs.Common.{ap, ◌∙◌, option_copied}
use Rattle.card_lines.specs.Front.{entries_first}
use Rattle.card_lines.proofs.Keyed.{no_entries, entries_there}
use Rattle.card_lines.proofs.entries.entries_line.Goals as goal

pub returns-in_err-strip_prefix : goal.returns-in_err-strip_prefix
returns-in_err-strip_prefix c = let h = c.in_err-strip_prefix.ensures.cases in ap option_copied c.from_residual.ensures ∙ no_entries c.args.key.now c.args.text.now h 8 c.args.k

pub returns : goal.returns
returns c = let h = c.in_ok-strip_prefix.ensures.cases in c.entries_here.ensures ∙ ap (entries_first 8 c.args.k) h.1 ∙ entries_there c.args.key.now c.args.text.now c.requires.0 h.0 8 c.args.k
