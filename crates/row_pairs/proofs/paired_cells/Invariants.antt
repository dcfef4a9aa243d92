-- Two times q of the rows are written.
use Rattle.std.proofs.Common.{◌*◌}
use Rattle.std.specs.Float.{binary32}
use Rattle.grids.proofs.Turns.{Rows}
use Rattle.entries.specs.Entries.{product}
use Rattle.row_pairs.proofs.paired_cells.Given as goal

abbrev pub invariant-loop-q : goal.invariant-loop-q
invariant-loop-q l = Rows l.rows l.cols (product binary32 l.inner l.cols l.a l.b) l.fn.c l.c (2 * l.q)
