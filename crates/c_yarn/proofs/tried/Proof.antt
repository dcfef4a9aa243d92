-- `tried` meets its contract, by the two cases of the correction by value (`proofs/Yarns.antt`). Assumes nothing.
use mathlib.Core.Path.{sym, ◌∙◌}
use borrow.Author.Rules.{rules}
use Rattle.c_yarn.proofs.Yarns.{accepted, refused}
use Rattle.c_yarn.proofs.tried.Statement.{statement}
use Rattle.c_yarn.proofs.tried.Tie as tie

correct-requires : tie.Need-correct-requires
correct-requires c κs = search rules

enum_known-renewed : tie.Need-enum_known-renewed
enum_known-renewed c = search rules

code_of-requires : tie.Need-code_of-requires
code_of-requires c κs = search rules

enum_known-blinded : tie.Need-enum_known-blinded
enum_known-blinded c = search rules

code_of-requires-in-Refused : tie.Need-code_of-requires-in-Refused
code_of-requires-in-Refused c κs = search rules

returns-in-Accepted : tie.Need-returns-in-Accepted
returns-in-Accepted c = accepted _ _ _ _ (sym c.correct.ensures ∙ c.in-Accepted.is) c.code_of.ensures

returns-in-Refused : tie.Need-returns-in-Refused
returns-in-Refused c = refused _ _ _ _ _ (sym c.correct.ensures ∙ c.in-Refused.is) c.code_of-in-Refused.ensures

pub tried_spec : {M : Type 1} → statement M
tried_spec =
    tie.close
    (tie.spec
    correct-requires
    enum_known-renewed
    code_of-requires
    enum_known-blinded
    code_of-requires-in-Refused
    returns-in-Accepted
    returns-in-Refused)
