-- The cells below the index are compared.
use Rattle.std.proofs.Common.{◌≡◌}
use Rattle.lists.specs.Seen.{cells_met}
use Rattle.lists.proofs.seen.cells_met.Given as goal

abbrev pub invariant-loop-i : goal.invariant-loop-i
invariant-loop-i l = l.more ≡ cells_met l.s l.initial.more l.buffer l.cells l.i
