-- `upper_cells`: the right halves of two rows a turn, from the last upward.
use Rattle.std.proofs.Common.{◌*◌, ◌-◌}
use Rattle.std.specs.Float.{binary32}
use Rattle.entries.specs.Entries.{product}
use Rattle.right_halves.proofs.HalfRows.{Halved}
use Rattle.right_halves.proofs.upper_cells.Given as goal

abbrev pub invariant-loop-pair : goal.invariant-loop-pair
invariant-loop-pair l = Halved l.cols (product binary32 l.inner l.cols l.a l.b) l.initial.c l.c (l.cols - 2 * l.pair)
