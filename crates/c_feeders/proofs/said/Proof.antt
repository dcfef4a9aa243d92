-- `said` meets its contract, by the three cases of what a correction of a row says (`proofs/Counted.antt`). Assumes nothing.
use borrow.Author.Rules.{rules}
use Rattle.c_feeders.proofs.Counted.{all_said, part_said, refused_said}
use Rattle.c_feeders.proofs.said.Statement.{statement}
use Rattle.c_feeders.proofs.said.Tie as tie

enum_known-c : tie.Need-enum_known-c
enum_known-c c = search rules

enum_known-c-in-Part-1 : tie.Need-enum_known-c-in-Part-1
enum_known-c-in-Part-1 c = search rules

enum_known-c-in-Refused-1 : tie.Need-enum_known-c-in-Refused-1
enum_known-c-in-Refused-1 c = search rules

code_of-requires : tie.Need-code_of-requires
code_of-requires c κs = search rules

returns-in-All : tie.Need-returns-in-All
returns-in-All c = all_said _ _ _ c.in-All.is

returns-in-Part : tie.Need-returns-in-Part
returns-in-Part c = part_said _ _ _ _ c.in-Part.is

returns-in-Refused : tie.Need-returns-in-Refused
returns-in-Refused c = refused_said _ _ _ _ c.in-Refused.is c.code_of.ensures

pub said_spec : {M : Type 1} → statement M
said_spec = tie.close (tie.spec enum_known-c enum_known-c-in-Part-1 enum_known-c-in-Refused-1 code_of-requires returns-in-All returns-in-Part returns-in-Refused)
