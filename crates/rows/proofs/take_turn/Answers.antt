-- `take_turn` meets its contract, by the two cases of the correction by value (`proofs/Steps.antt`).
use mathlib.Core.Path.{sym, ◌∙◌}
use Rattle.rows.proofs.Steps.{accepted_turn, refused_turn}
use Rattle.rows.proofs.take_turn.Goals as goal

pub returns-in-Accepted : goal.returns-in-Accepted
returns-in-Accepted c = accepted_turn _ _ _ _ _ _ (sym c.correct.ensures ∙ c.in-Accepted.is) c.tallied.ensures

pub returns-in-Refused : goal.returns-in-Refused
returns-in-Refused c = refused_turn _ _ _ _ _ _ _ (sym c.correct.ensures ∙ c.in-Refused.is) c.tallied-in-Refused.ensures
