-- A refusal stays whatever is tested after it, since it is not done. Assumes nothing.
use mathlib.Core.Path.{◌≡◌}
use mathlib.Core.List.{List}
use Rattle.std.proofs.Common.{Err}
use Rattle.answers.specs.declared.Refusal.{Refusal}
use Rattle.answers.specs.Answers.{Answer}
use Rattle.answers.specs.Tests.{after_tests}
use Rattle.answers.proofs.Asked.{stays}
use Rattle.answers.proofs.Kept.{err_not_done}

pub refusal_stays : (why : Refusal) (ws : List Answer) → after_tests (Err why) ws ≡ Err why
refusal_stays why ws = stays (Err why) ws (err_not_done why)
