-- The numbers below the index are compared.
use Rattle.std.proofs.Common.{◌≡◌}
use Rattle.card_cells.specs.Cells.{all_met}
use Rattle.card_cells.proofs.cells.all_met.Given as goal

abbrev pub invariant-loop-i : goal.invariant-loop-i
invariant-loop-i l = l.more ≡ all_met l.s l.initial.more l.buffer l.k l.cells l.i
